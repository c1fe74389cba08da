-- What brings a rule about: a change of one of its operations, of a tuple whose net effect is one.
use Rattle.std.proofs.Common.{◌≡◌, ℕ, Bool, true, false, cond, not, ◌&&◌, ◌||◌, ◌==◌, List, [], ◌∷◌, ◌++◌, map, filter, append_assoc, Option, Some, None, refl, sym, ◌∙◌, inl, inr, subst, ap, nat_lt}
use Rattle.std.specs.Prelude.{slice_get}
use Rattle.std.specs.List.{list_any}
use Rattle.std.proofs.lemmas.Bool.{true≢false, eqb-true, false≢true, and_parts, and_from, or_cases, or_left, or_right, cases_Bool}
use Rattle.std.proofs.lemmas.List.Elements.{filter-append}
use Rattle.sb_value.proofs.NetLaws.{last_of-append, span, span_of, life_after, life_before, append-nil}
use Rattle.sb_value.proofs.ValueLaws.{same_place_is}
use Rattle.sb_value.specs.ValueEquality.{same_row_is}
use Rattle.sb_value.specs.Columns.{same_place, differ_at, differing}
use Rattle.sb_value.specs.Flags.{share_place}
use Rattle.sb_value.specs.NetEffect.{is_of, history, last_of, update_between, net_between, net_of, net_effect, with_number, tuples_of, has_update, is_operation, is_triggered}
use Rattle.sb_value.specs.Laws.{may_follow, IsLife, AreLives, kind_triggers, brings_about, LastChangeTriggers, NewChangesTrigger}
use Rattle.sb_value.specs.Table.{new_row, old_row}
use Rattle.sb_value.specs.Values.{same_row}
use Rattle.sb_value.specs.declared.change.Change.{Change}
use Rattle.sb_value.specs.declared.net.Net.TheVariants as net
use Rattle.sb_value.specs.declared.change.ChangeKind.{ChangeKind}
use Rattle.sb_value.specs.declared.change.ChangeKind.TheVariants.{Inserted, Deleted, Updated}
use Rattle.sb_value.specs.declared.net.Triggers.{Triggers}
use Rattle.sb_value.specs.declared.value.Value.{Value}

-- ---- an update in two parts

or_none : (a b : Bool) → (a || b) ≡ false → (a ≡ false) × (b ≡ false)
or_none true b h = absurd (true≢false h)
or_none false b h = (refl, h)

and_rest : (a b : Bool) → a ≡ true → (a && b) ≡ false → b ≡ false
and_rest true b e h = h
and_rest false b e h = absurd (false≢true e)

share_step : (ts : List Bool) (whole first second : ℕ → Bool) → ((k : ℕ) → whole k ≡ true → first k ≡ false → second k ≡ true) → (ks : List ℕ)
    → share_place ts (map whole ks) ≡ true → share_place ts (map first ks) ≡ false → share_place ts (map second ks) ≡ true
share_step [] whole first second on ks h g = absurd (false≢true h)
share_step (t ∷ ts) whole first second on [] h g = absurd (false≢true h)
share_step (t ∷ ts) whole first second on (k ∷ ks) h g =
    let none = or_none (t && first k) (share_place ts (map first ks)) g in
    elim (or_cases (t && whole k) (share_place ts (map whole ks)) h) [
      | inl here ↦
          let both = and_parts t (whole k) here in
          or_left (t && second k) (share_place ts (map second ks)) (and_from t (second k) both.0 (on k both.1 (and_rest t (first k) both.0 none.0)))
      | inr there ↦ or_right (t && second k) (share_place ts (map second ks)) (share_step ts whole first second on ks there none.1)
    ]

differ_step : (a b c : List Value) (k : ℕ) → differ_at a c k ≡ true → differ_at a b k ≡ false → differ_at b c k ≡ true
differ_step a b c k h g = subst (λ (x : Option Value). not (same_place x (slice_get c k)) ≡ true) (same_place_is (slice_get a k) (slice_get b k) (same (same_place (slice_get a k) (slice_get b k)) g)) h
  where
    same : (x : Bool) → not x ≡ false → x ≡ true
    same true e = refl
    same false e = absurd (true≢false e)

update_step : (triggers : Triggers) (a b c : List Value) → is_operation triggers (update_between a c) ≡ true → is_operation triggers (update_between a b) ≡ false → is_operation triggers (update_between b c) ≡ true
update_step triggers a b c h g = by (same_row a b) refl (same_row b c) refl
  where
    counted : (z : Bool) → is_operation triggers (cond z None (Some (net.Updated a c (differing a c)))) ≡ true → has_update triggers (differing a c) ≡ true
    counted true e = absurd (false≢true e)
    counted false e = e

    onward : (u : Bool) → (u || share_place triggers.columns (differing a c)) ≡ true → (u || share_place triggers.columns (differing a b)) ≡ false → (u || share_place triggers.columns (differing b c)) ≡ true
    onward true e f = refl
    onward false e f = share_step triggers.columns (differ_at a c) (differ_at a b) (differ_at b c) (differ_step a b c) (0 ∷ 1 ∷ 2 ∷ 3 ∷ 4 ∷ 5 ∷ 6 ∷ 7 ∷ []) e f

    by : (x : Bool) → same_row a b ≡ x → (y : Bool) → same_row b c ≡ y → is_operation triggers (update_between b c) ≡ true
    by true e y f = subst (λ (r : List Value). is_operation triggers (update_between r c) ≡ true) (same_row_is a b e) h
    by false e true f = absurd (true≢false (sym (subst (λ (r : List Value). is_operation triggers (update_between a r) ≡ true) (sym (same_row_is b c f)) h) ∙ g))
    by false e false f =
        ap (λ (z : Bool). is_operation triggers (cond z None (Some (net.Updated b c (differing b c))))) f
        ∙ onward triggers.updated (counted (same_row a c) h) (sym (ap (λ (z : Bool). is_operation triggers (cond z None (Some (net.Updated a b (differing a b))))) e) ∙ g)

-- ---- the last change of a tuple, and those after some

module _ (triggers : Triggers) where
  -- p is the first change, q the last one so far, and c follows it
  step_by : (p q c : Change) → old_row c ≡ new_row q → (k m n : ChangeKind) → span k m ≡ true → may_follow m n ≡ true → is_operation triggers (net_between k n p c) ≡ true
      → is_operation triggers (net_between k m p q) ≡ false → kind_triggers n triggers c ≡ true
  step_by p q c row Inserted Inserted Inserted s f h g = absurd (false≢true f)
  step_by p q c row Inserted Inserted Updated s f h g = absurd (true≢false (sym h ∙ g))
  step_by p q c row Inserted Inserted Deleted s f h g = absurd (false≢true h)
  step_by p q c row Inserted Updated Inserted s f h g = absurd (false≢true f)
  step_by p q c row Inserted Updated Updated s f h g = absurd (true≢false (sym h ∙ g))
  step_by p q c row Inserted Updated Deleted s f h g = absurd (false≢true h)
  step_by p q c row k Deleted n s f h g = absurd (false≢true f)
  step_by p q c row Updated Inserted n s f h g = absurd (false≢true s)
  step_by p q c row Updated Updated Inserted s f h g = absurd (false≢true f)
  step_by p q c row Updated Updated Updated s f h g =
      subst (λ (b : List Value). is_operation triggers (update_between b (new_row c)) ≡ true) (sym row) (update_step triggers (old_row p) (new_row q) (new_row c) h g)
  step_by p q c row Updated Updated Deleted s f h g = h
  step_by p q c row Deleted Inserted n s f h g = absurd (false≢true s)
  step_by p q c row Deleted Updated n s f h g = absurd (false≢true s)

  one_by : (k : ChangeKind) (c : Change) → is_operation triggers (net_between k k c c) ≡ true → kind_triggers k triggers c ≡ true
  one_by Inserted c h = h
  one_by Deleted c h = h
  one_by Updated c h = h

  tuple_step : (cs : List Change) (d : Change) → IsLife (cs ++ d ∷ []) → is_operation triggers (net_of (cs ++ d ∷ [])) ≡ true → is_operation triggers (net_of cs) ≡ false → kind_triggers d.kind triggers d ≡ true
  tuple_step [] d life h g = one_by d.kind d h
  tuple_step (c ∷ cs) d life h g =
      let on = life_after c cs d [] life in
      step_by c (last_of c cs) d on.0.1 c.kind (last_of c cs).kind d.kind (span_of c cs (life_before (c ∷ cs) (d ∷ []) life)) on.0.0
      (subst (λ (l : Change). is_operation triggers (net_between c.kind l.kind c l) ≡ true) (last_of-append c cs d []) h) g

  -- the change is one of the operations
  abbrev counts : Change → Bool
  counts c = kind_triggers c.kind triggers c

  tuple_steps : (cs ds : List Change) → IsLife (cs ++ ds) → is_operation triggers (net_of (cs ++ ds)) ≡ true → is_operation triggers (net_of cs) ≡ false → list_any counts ds ≡ true
  tuple_steps cs [] life h g = absurd (true≢false (sym h ∙ ap (λ (l : List Change). is_operation triggers (net_of l)) (append-nil cs) ∙ g))
  tuple_steps cs (d ∷ ds) life h g = by (is_operation triggers (net_of (cs ++ d ∷ []))) refl (λ e. tuple_steps (cs ++ d ∷ []) ds life_cut (subst (λ (l : List Change). is_operation triggers (net_of l) ≡ true) cut h) e)
    where
      cut : cs ++ d ∷ ds ≡ (cs ++ d ∷ []) ++ ds
      cut = sym (append_assoc cs (d ∷ []) ds)

      life_cut : IsLife ((cs ++ d ∷ []) ++ ds)
      life_cut = subst IsLife cut life

      by : (b : Bool) → is_operation triggers (net_of (cs ++ d ∷ [])) ≡ b → (is_operation triggers (net_of (cs ++ d ∷ [])) ≡ false → list_any counts ds ≡ true) → (counts d || list_any counts ds) ≡ true
      by true e on = or_left (counts d) (list_any counts ds) (tuple_step cs d (life_before (cs ++ d ∷ []) ds life_cut) e g)
      by false e on = or_right (counts d) (list_any counts ds) (on e)

-- ---- a tuple with an operation is among the tuples

module _ (p : ℕ → Bool) where
  added : (n : ℕ) (ms : List ℕ) → p n ≡ true → list_any p (with_number n ms) ≡ true
  added n [] h = or_left (p n) false h
  added n (m ∷ ms) h =
      elim (n == m) as (λ b. (n == m) ≡ b → list_any p (cond b (m ∷ ms) (cond (nat_lt n m) (n ∷ m ∷ ms) (m ∷ with_number n ms))) ≡ true) [
        | true ↦ λ e. or_left (p m) (list_any p ms) (subst (λ x. p x ≡ true) (eqb-true n m e) h)
        | false ↦ λ _. elim (nat_lt n m) as (λ b. list_any p (cond b (n ∷ m ∷ ms) (m ∷ with_number n ms)) ≡ true) [
          | true ↦ or_left (p n) (list_any p (m ∷ ms)) h
          | false ↦ or_right (p m) (list_any p (with_number n ms)) (added n ms h)
        ]
      ] refl

  kept : (n : ℕ) (ms : List ℕ) → list_any p ms ≡ true → list_any p (with_number n ms) ≡ true
  kept n [] h = absurd (false≢true h)
  kept n (m ∷ ms) h =
      elim (n == m) as (λ b. list_any p (cond b (m ∷ ms) (cond (nat_lt n m) (n ∷ m ∷ ms) (m ∷ with_number n ms))) ≡ true) [
        | true ↦ h
        | false ↦ elim (nat_lt n m) as (λ b. list_any p (cond b (n ∷ m ∷ ms) (m ∷ with_number n ms)) ≡ true) [
          | true ↦ or_right (p n) (list_any p (m ∷ ms)) h
          | false ↦ elim (or_cases (p m) (list_any p ms) h) [
            | inl here ↦ or_left (p m) (list_any p (with_number n ms)) here
            | inr there ↦ or_right (p m) (list_any p (with_number n ms)) (kept n ms there)
          ]
        ]
      ]

  listed : (triggers : Triggers) (table k : ℕ) → p k ≡ true → (xs : List Change) → is_operation triggers (net_of (history xs table k)) ≡ true → list_any p (tuples_of xs table) ≡ true
  listed triggers table k h [] g = absurd (false≢true g)
  listed triggers table k h (c ∷ cs) g =
      elim (c.table == table) as (λ b. is_operation triggers (net_of (cond (b && (c.tuple == k)) (c ∷ history cs table k) (history cs table k))) ≡ true
      → list_any p (cond b (with_number c.tuple (tuples_of cs table)) (tuples_of cs table)) ≡ true) [
        | true ↦ λ g. elim (c.tuple == k) as (λ b. (c.tuple == k) ≡ b → is_operation triggers (net_of (cond b (c ∷ history cs table k) (history cs table k))) ≡ true
            → list_any p (with_number c.tuple (tuples_of cs table)) ≡ true) [
              | true ↦ λ e _. added c.tuple (tuples_of cs table) (subst (λ x. p x ≡ true) (sym (eqb-true c.tuple k e)) h)
              | false ↦ λ _ g. kept c.tuple (tuples_of cs table) (listed triggers table k h cs g)
            ] refl g
        | false ↦ λ g. listed triggers table k h cs g
      ] g

  some_of : (ks : List ℕ) → list_any p ks ≡ true → (k : ℕ) × (p k ≡ true)
  some_of [] h = absurd (false≢true h)
  some_of (k ∷ ks) h = elim (or_cases (p k) (list_any p ks) h) [ inl here ↦ (k, here) | inr there ↦ some_of ks there ]

triggered_by : (triggers : Triggers) (table k : ℕ) (xs : List Change) → is_operation triggers (net_effect xs table k) ≡ true → is_triggered triggers table xs ≡ true
triggered_by triggers table k xs h = listed (λ x. is_operation triggers (net_effect xs table x)) triggers table k h xs h

-- ---- the laws

any_kept : (f p q : Change → Bool) → ((c : Change) → f c ≡ true → p c ≡ true → q c ≡ true) → (cs : List Change) → list_any p (filter f cs) ≡ true → list_any q cs ≡ true
any_kept f p q on [] h = absurd (false≢true h)
any_kept f p q on (c ∷ cs) h =
    elim (f c) as (λ b. f c ≡ b → list_any p (cond b (c ∷ filter f cs) (filter f cs)) ≡ true → (q c || list_any q cs) ≡ true) [
      | true ↦ λ e h. elim (or_cases (p c) (list_any p (filter f cs)) h) [
        | inl here ↦ or_left (q c) (list_any q cs) (on c e here)
        | inr there ↦ or_right (q c) (list_any q cs) (any_kept f p q on cs there)
      ]
      | false ↦ λ _ h. or_right (q c) (list_any q cs) (any_kept f p q on cs h)
    ] refl h

module _ (triggers : Triggers) (table : ℕ) (xs ys : List Change) (lives : AreLives (xs ++ ys)) (quiet : is_triggered triggers table xs ≡ false) where
  quiet_at : (k : ℕ) → is_operation triggers (net_effect xs table k) ≡ false
  quiet_at k = elim (cases_Bool (is_operation triggers (net_effect xs table k))) [ inl h ↦ absurd (true≢false (sym (triggered_by triggers table k xs h) ∙ quiet)) | inr h ↦ h ]

  -- the tuple has a change among the second list's that is one of the operations
  at_tuple : (k : ℕ) → is_operation triggers (net_effect (xs ++ ys) table k) ≡ true → list_any (counts triggers) (history ys table k) ≡ true
  at_tuple k h =
      let cut = filter-append (is_of table k) xs ys in
      tuple_steps triggers (history xs table k) (history ys table k) (subst IsLife cut (lives table k))
      (subst (λ (l : List Change). is_operation triggers (net_of l) ≡ true) cut h) (quiet_at k)

  abbrev hit : ℕ → Bool
  hit k = is_operation triggers (net_effect (xs ++ ys) table k)

  brought_about : (k : ℕ) → hit k ≡ true → (c : Change) → is_of table k c ≡ true → counts triggers c ≡ true → brings_about triggers table (xs ++ ys) c ≡ true
  brought_about k h c of it =
      let parts = and_parts (c.table == table) (c.tuple == k) of in
      and_from (c.table == table) (counts triggers c && hit c.tuple) parts.0 (and_from (counts triggers c) (hit c.tuple) it (ap hit (eqb-true c.tuple k parts.1) ∙ h))

  pub forth : is_triggered triggers table (xs ++ ys) ≡ true → list_any (brings_about triggers table (xs ++ ys)) ys ≡ true
  forth now =
      let found = some_of hit (tuples_of (xs ++ ys) table) now in
      any_kept (is_of table found.0) (counts triggers) (brings_about triggers table (xs ++ ys)) (brought_about found.0 found.1) ys (at_tuple found.0 found.1)

  pub back : list_any (brings_about triggers table (xs ++ ys)) ys ≡ true → is_triggered triggers table (xs ++ ys) ≡ true
  back h =
      let found = some_change ys h in
      let parts = and_parts (found.0.table == table) (counts triggers found.0 && hit found.0.tuple) found.1 in
      triggered_by triggers table found.0.tuple (xs ++ ys) (and_parts (counts triggers found.0) (hit found.0.tuple) parts.1).1
    where
      some_change : (cs : List Change) → list_any (brings_about triggers table (xs ++ ys)) cs ≡ true → (c : Change) × (brings_about triggers table (xs ++ ys) c ≡ true)
      some_change [] h = absurd (false≢true h)
      some_change (c ∷ cs) h = elim (or_cases (brings_about triggers table (xs ++ ys) c) (list_any (brings_about triggers table (xs ++ ys)) cs) h) [ inl here ↦ (c, here) | inr there ↦ some_change cs there ]

both_ways : (a b : Bool) → (a ≡ true → b ≡ true) → (b ≡ true → a ≡ true) → a ≡ b
both_ways true b f g = sym (f refl)
both_ways false true f g = g refl
both_ways false false f g = refl

pub new_changes_trigger : NewChangesTrigger
new_changes_trigger triggers table xs ys lives quiet =
    both_ways (is_triggered triggers table (xs ++ ys)) (list_any (brings_about triggers table (xs ++ ys)) ys) (forth triggers table xs ys lives quiet) (back triggers table xs ys lives quiet)

pub last_change_triggers : LastChangeTriggers
last_change_triggers triggers table xs c lives quiet now =
    let it = forth triggers table xs (c ∷ []) lives quiet now in
    let brought : brings_about triggers table (xs ++ c ∷ []) c ≡ true = elim (or_cases (brings_about triggers table (xs ++ c ∷ []) c) false it) [ inl h ↦ h | inr h ↦ absurd (false≢true h) ] in
    let parts = and_parts (c.table == table) (counts triggers c && is_operation triggers (net_effect (xs ++ c ∷ []) table c.tuple)) brought in
    (eqb-true c.table table parts.0, (and_parts (counts triggers c) (is_operation triggers (net_effect (xs ++ c ∷ []) table c.tuple)) parts.1).0)
