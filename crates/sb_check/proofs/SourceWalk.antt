-- The walk of sources, one at a time.
use Rattle.std.proofs.Common.{ℕ, ◌+◌, ◌<◌, length, drop, get_or, subst, ◌≡◌, refl, sym, ap, ◌∙◌, Bool, true, false, List, [], ◌∷◌, ◌++◌, map, append_assoc}
use Rattle.std.proofs.lemmas.List.{map-append, drop_more}
use Rattle.std.specs.Prelude.{not, Result, Ok, Err, ◌||◌}
use Rattle.std.specs.List.{list_any}
use Rattle.std.proofs.lemmas.List.Folds.{list_any-append}
use Rattle.sb_value.specs.declared.value.ColumnDefinition.{ColumnDefinition}
use Rattle.sb_value.specs.declared.refusal.Refusal.{Refusal}
use Rattle.sb_value.specs.declared.refusal.Refusal.TheVariants as refusal
use Rattle.sb_syntax.specs.declared.tree.SourceReference.{SourceReference}
use Rattle.sb_syntax.specs.declared.tree.TableReference.{TableReference}
use Rattle.sb_check.specs.declared.tree.Source.{Source}
use Rattle.sb_check.specs.Names.{and_then, required, same_table, Visible}
use Rattle.sb_check.specs.Walk.{Schema, walk_table, walk_sources, visible_name}
use Rattle.sb_check.specs.Sources.{seen_sources}

-- two lists that hold the same names
abbrev pub SameTaken : List TableReference → List TableReference → Type 0
SameTaken a b = (n : TableReference) → list_any (same_table n) a ≡ list_any (same_table n) b

pub more_taken : (n : TableReference) (a b : List TableReference) → SameTaken a b → SameTaken (n ∷ a) (n ∷ b)
more_taken n a b same m = ap (λ rest. same_table m n || rest) (same m)

or_last : (b c : Bool) → (b || c) ≡ (c || (b || false))
or_last true true = refl
or_last true false = refl
or_last false true = refl
or_last false false = refl

pub taken_last : (n : TableReference) (a : List TableReference) → SameTaken (n ∷ a) (a ++ n ∷ [])
taken_last n a m = or_last (same_table m n) (list_any (same_table m) a) ∙ sym (list_any-append (same_table m) a (n ∷ []))

-- the walk asks of the taken names only which they are
pub walk_sources-same : (schema : Schema) (ss : List SourceReference) (a b : List TableReference) → SameTaken a b → walk_sources schema a ss ≡ walk_sources schema b ss
walk_sources-same schema [] a b same = refl
walk_sources-same schema (s ∷ ss) a b same =
    ap (λ (f : (Source × List ColumnDefinition) → Result (List (Source × Visible)) Refusal). and_then (walk_table schema s.table) f)
    (λ i t. required (not (same (visible_name s) i)) refusal.Ambiguous
    (and_then (walk_sources-same schema ss (visible_name s ∷ a) (visible_name s ∷ b) (more_taken (visible_name s) a b same) i)
    (λ rest. Ok ((t.0, record { name = visible_name s; columns = t.1 }) ∷ rest))))

abbrev pub names_of : List Visible → List TableReference
names_of vs = map (λ v. v.name) vs

-- the sources so far stand before the others
abbrev pub after : List Source → List Visible → Result (List Source × List Visible) Refusal → Result (List Source × List Visible) Refusal
after a b rest = and_then rest (λ p. Ok (a ++ p.0, b ++ p.1))

-- one more source, seen after those before it
module _ (schema : Schema) (vs : List Visible) (srcs : List Source) (s : SourceReference) (ss : List SourceReference) where
  pub source-stops : (e : Refusal) → walk_table schema s.table ≡ Err e → after srcs vs (seen_sources schema (names_of vs) (s ∷ ss)) ≡ Err e
  source-stops e h = rw h refl

  pub source-taken : (t : Source × List ColumnDefinition) → walk_table schema s.table ≡ Ok t → list_any (same_table (visible_name s)) (names_of vs) ≡ true
      → after srcs vs (seen_sources schema (names_of vs) (s ∷ ss)) ≡ Err refusal.Ambiguous
  source-taken t h taken = rw (h, taken) refl

  seen_first : (t : Source × List ColumnDefinition) (rest : Result (List (Source × Visible)) Refusal)
      → after srcs vs (and_then (and_then rest (λ r. Ok ((t.0, record { name = visible_name s; columns = t.1 }) ∷ r))) (λ ss. Ok (map (λ s. s.0) ss, map (λ s. s.1) ss)))
      ≡ after (srcs ++ t.0 ∷ []) (vs ++ record { name = visible_name s; columns = t.1 } ∷ []) (and_then rest (λ ss. Ok (map (λ s. s.0) ss, map (λ s. s.1) ss)))
  seen_first t (Ok r) = simp append_assoc
  seen_first t (Err e) = refl

  pub source-next : (t : Source × List ColumnDefinition) → walk_table schema s.table ≡ Ok t → list_any (same_table (visible_name s)) (names_of vs) ≡ false
      → after srcs vs (seen_sources schema (names_of vs) (s ∷ ss))
      ≡ after (srcs ++ t.0 ∷ []) (vs ++ record { name = visible_name s; columns = t.1 } ∷ [])
      (seen_sources schema (names_of (vs ++ record { name = visible_name s; columns = t.1 } ∷ [])) ss)
  source-next t h free =
      rw (h, free)
      (rw (walk_sources-same schema ss (visible_name s ∷ names_of vs) (names_of vs ++ visible_name s ∷ []) (taken_last (visible_name s) (names_of vs)))
      (seen_first t (walk_sources schema (names_of vs ++ visible_name s ∷ []) ss) ∙ (rw map-append refl)))

-- the same of a list from a place on
pub source-step : (schema : Schema) (whole : Result (List Source × List Visible) Refusal) (refs : List SourceReference) (i : ℕ) (s : SourceReference) (vs : List Visible) (srcs : List Source) (t : Source × List ColumnDefinition) (name : TableReference)
    → i < length refs → s ≡ get_or refs i s → name ≡ visible_name s → walk_table schema s.table ≡ Ok t → false ≡ list_any (same_table name) (names_of vs)
    → whole ≡ after srcs vs (seen_sources schema (names_of vs) (drop i refs))
    → whole ≡ after (srcs ++ t.0 ∷ []) (vs ++ record { name = name; columns = t.1 } ∷ []) (seen_sources schema (names_of (vs ++ record { name = name; columns = t.1 } ∷ [])) (drop (i + 1) refs))
source-step schema whole refs i s vs srcs t name lt item is h free inv =
    let split : drop i refs ≡ s ∷ drop (i + 1) refs = drop_more refs i s lt ∙ ap (λ x. x ∷ drop (i + 1) refs) (sym item) in
    let free_s : list_any (same_table (visible_name s)) (names_of vs) ≡ false = ap (λ n. list_any (same_table n) (names_of vs)) (sym is) ∙ sym free in
    let one = inv ∙ ap (λ r. after srcs vs (seen_sources schema (names_of vs) r)) split ∙ source-next schema vs srcs s (drop (i + 1) refs) t h free_s in
    let P : TableReference → Type 0 = λ n. whole ≡ after (srcs ++ t.0 ∷ []) (vs ++ record { name = n; columns = t.1 } ∷ []) (seen_sources schema (names_of (vs ++ record { name = n; columns = t.1 } ∷ [])) (drop (i + 1) refs)) in
    subst P (sym is) one
