-- The changes of rows, one after another.
use Rattle.std.proofs.Common.{◌≡◌, ◌∙◌, refl, ap, sym, subst, ℕ, List, [], ◌∷◌, ◌++◌, map, drop, take, length, Bool, true, false}
use Rattle.std.proofs.lemmas.List.{append_assoc, append-nil, map-set}
use Rattle.std.proofs.Math.ListN.{length-set}
use Rattle.std.proofs.Math.Seq.{take-append_seam}
use Rattle.std.specs.Prelude.{slice_set, if◌then◌else◌, Option, Some, None, option_map, option_and_then}
use Rattle.sb_value.specs.declared.value.Value.{Value}
use Rattle.sb_value.specs.declared.change.Change.{Change}
use Rattle.sb_check.specs.Condition.{Condition}
use Rattle.sb_check.specs.declared.tree.Assignment.{Assignment}
use Rattle.sb_plan.specs.Seen.{Seen, rows_in}
use Rattle.sb_eval.specs.Statement.{update_change, assigned, scope_of, found, places_of}
use Rattle.sb_eval.specs.Effect.{change_of, with_change}
use Rattle.sb_eval.specs.declared.change.TableWalk.{TableWalk}
use Rattle.sb_plan.specs.Scopes.{value_seen}
use Rattle.sb_plan.specs.declared.value_ref.ValueRef.{ValueRef}
use Rattle.sb_plan.specs.Meaning.{both, each, holds, passing}
use Rattle.sb_plan.specs.RowFlags.{Tell}

abbrev pub Numbered : Type 0
Numbered = ℕ × List Value

-- the changes of the rows that pass
abbrev pub changes_from : (Numbered → Option Bool) → (Numbered → Option Change) → List Numbered → Option (List Change)
changes_from test change rows = option_and_then (each change) (passing test rows)

-- those done before the others
abbrev pub all_after : List Change → Option (List Change) → Option (List Change)
all_after done more = option_map (λ rest. done ++ rest) more

-- what is made of the rows that are left, behind the changes so far
abbrev pub made_behind : {S : Type 0} → (S → Seen) → TableWalk S → List Change → List Numbered → Option (List Change)
made_behind seen walk done left =
    let here = seen walk.sources.now in
    all_after done (changes_from (λ r. holds (rows_in here) walk.filter.now (scope_of r)) (change_of here walk.table walk.effect.now) left)

one-first : (done : List Change) (c : Option Change) (rest : Option (List Change))
    → all_after done (both (λ y ys. Some (y ∷ ys)) c rest) ≡ option_and_then (λ next. all_after next rest) (option_map (λ x. done ++ x ∷ []) c)
one-first done None rest = refl
one-first done (Some c) None = refl
one-first done (Some c) (Some rest) = ap (λ l. Some l) (sym (append_assoc done (c ∷ []) rest))

no-rest : (done : List Change) (c : Option Change) → all_after done None ≡ option_and_then (λ next. all_after next None) (option_map (λ x. done ++ x ∷ []) c)
no-rest done None = refl
no-rest done (Some c) = refl

abbrev kept_rows : Numbered → Bool → List Numbered → Option (List Numbered)
kept_rows r b ys = Some (if b then r ∷ ys else ys)

row-first : (change : Numbered → Option Change) (done : List Change) (r : Numbered) (passes : Option Bool) (found : Option (List Numbered))
    → all_after done (option_and_then (each change) (both (kept_rows r) passes found)) ≡ option_and_then (λ next. all_after next (option_and_then (each change) found)) (option_and_then (with_change done (change r)) passes)
row-first change done r None found = refl
row-first change done r (Some true) None = no-rest done (change r)
row-first change done r (Some true) (Some ys) = one-first done (change r) (each change ys)
row-first change done r (Some false) None = refl
row-first change done r (Some false) (Some ys) = refl

-- the first of the rows that are left, and then the others
pub row-step : (test : Numbered → Option Bool) (change : Numbered → Option Change) (whole : Option (List Change)) (done : List Change) (left others : List Numbered) (n : ℕ) (row values : List Value)
    → left ≡ (n, row) ∷ others → values ≡ row
    → whole ≡ all_after done (changes_from test change left)
    → whole ≡ option_and_then (λ next. all_after next (changes_from test change others)) (option_and_then (with_change done (change (n, values))) (test (n, values)))
row-step test change whole done left others n row values split same inv =
    inv ∙ ap (λ l. all_after done (changes_from test change l)) (split ∙ ap (λ r. (n, r) ∷ others) (sym same))
    ∙ row-first change done (n, values) (test (n, values)) (passing test others)

-- the same, where it is told whether the row passes
pub told-step : (test : Numbered → Option Bool) (change : Numbered → Option Change) (whole : Option (List Change)) (done : List Change) (left others : List Numbered) (n : ℕ) (row values : List Value) (b : Bool)
    → left ≡ (n, row) ∷ others → values ≡ row → test (n, row) ≡ Some b
    → whole ≡ all_after done (changes_from test change left)
    → whole ≡ option_and_then (λ next. all_after next (changes_from test change others)) (with_change done (change (n, values)) b)
told-step test change whole done left others n row values b split same told inv =
    row-step test change whole done left others n row values split same inv
    ∙ ap (λ o. option_and_then (λ next. all_after next (changes_from test change others)) (option_and_then (with_change done (change (n, values))) o)) (ap (λ v. test (n, v)) same ∙ told)

-- flags of rows, by another meaning
pub told_as : (is also : List Value → Bool → Type 0) (flags : List Bool) (rows : List (List Value)) → ((row : List Value) (b : Bool) → is row b → also row b) → Tell is flags rows → Tell also flags rows
told_as is also [] [] weaker tell = tt
told_as is also [] (row ∷ rows) weaker tell = absurd tell
told_as is also (b ∷ flags) [] weaker tell = absurd tell
told_as is also (b ∷ flags) (row ∷ rows) weaker tell = (weaker row b tell.0, told_as is also flags rows weaker tell.1)

-- the first flag is the first row's
pub told_first : (is : List Value → Bool → Type 0) (flags rest : List Bool) (b : Bool) (left others : List Numbered) (n : ℕ) (row : List Value) → flags ≡ b ∷ rest → left ≡ (n, row) ∷ others
    → Tell is flags (map (λ r. r.1) left) → is row b × Tell is rest (map (λ r. r.1) others)
told_first is flags rest b left others n row one two tell =
    subst (λ l. Tell is (b ∷ rest) (map (λ r. r.1) l)) two (subst (λ l. Tell is l (map (λ r. r.1) left)) one tell)

-- where nothing can fail, each is a map
pub each-some : {A B : Type 0} (f : A → B) (xs : List A) → each (λ x. Some (f x)) xs ≡ Some (map f xs)
each-some f [] = refl
each-some f (x ∷ xs) = ap (λ rest. both (λ y ys. Some (y ∷ ys)) (Some (f x)) rest) (each-some f xs)

-- a value that is put at a place, as it is seen
pub seen-set : (new old : List ValueRef) (i : ℕ) (v : ValueRef) (whole : List Value) → new ≡ slice_set old i v → map value_seen old ≡ whole → map value_seen new ≡ slice_set whole i (value_seen v)
seen-set new old i v whole is view = ap (map value_seen) is ∙ map-set value_seen old i v ∙ ap (λ l. slice_set l i (value_seen v)) view

-- where the first part is there, the second decides
pub then-ok : {A B : Type 0} (whole : Option B) (meant : Option A) (next : A → Option B) (a : A) → whole ≡ option_and_then next meant → meant ≡ Some a → whole ≡ next a
then-ok whole meant next a step h = step ∙ ap (option_and_then next) h

-- nothing before the others
pub after-none : (more : Option (List Change)) → all_after [] more ≡ more
after-none None = refl
after-none (Some rest) = refl

-- no row is left
pub all-done : (test : Numbered → Option Bool) (change : Numbered → Option Change) (done : List Change) (left : List Numbered) → left ≡ [] → all_after done (changes_from test change left) ≡ Some done
all-done test change done left none = ap (λ l. all_after done (changes_from test change l)) none ∙ ap (λ l. Some l) (append-nil done)

-- where each change is there, it is that of each row that is found
pub each-found : (f : Numbered → Change) (found : Option (List Numbered)) → option_and_then (each (λ r. Some (f r))) found ≡ option_map (map f) found
each-found f None = refl
each-found f (Some rows) = each-some f rows

-- the updates of the rows that are found
abbrev updates : Seen → ℕ → Condition → List Assignment → List Bool → Option (List Change)
updates seen t filter list columns = option_and_then (each (λ r. option_map (update_change seen t columns r) (assigned seen (scope_of r) list r.1))) (found seen t filter)

pub updates-are : (seen : Seen) (t : ℕ) (filter : Condition) (list other : List Assignment) (columns : List Bool) → list ≡ other → columns ≡ places_of list → updates seen t filter list columns ≡ updates seen t filter other (places_of other)
updates-are seen t filter list other columns same is = ap (updates seen t filter list) is ∙ ap (λ l. updates seen t filter l (places_of l)) same

-- the same, where the list is filled up to the length that it has
pub seen-refill : (new items old : List ValueRef) (i : ℕ) (v : ValueRef) (whole : List Value) → new ≡ slice_set old i v → old ≡ items → map value_seen items ≡ whole
    → map value_seen (take (length items) (new ++ drop (length new) items)) ≡ slice_set whole i (value_seen v)
seen-refill new items old i v whole is same view =
    let len : length new ≡ length items = ap length is ∙ length-set old i v ∙ ap length same in
    let kept : take (length items) (new ++ drop (length new) items) ≡ new = ap (λ n. take n (new ++ drop (length new) items)) (sym len) ∙ take-append_seam new (drop (length new) items) in
    ap (map value_seen) kept ∙ seen-set new old i v whole is (ap (map value_seen) same ∙ view)
