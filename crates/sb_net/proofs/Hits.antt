-- A rule is triggered where a walk over new changes of one of its kinds meets a tuple with one of its operations.
use Rattle.std.proofs.Math.Bool.{not-not, or_comm, or-false}
use Rattle.std.proofs.lemmas.Bool.{and_parts, or_left, or_right, or_cases, leb-true, le-leb}
use Rattle.std.proofs.Common.{◌≡◌, ℕ, ◌≤◌, Bool, true, false, ◌||◌, ◌&&◌, ◌==◌, cond, nat_le, nat_lt, List, [], ◌∷◌, ◌++◌, Some, None, map, reverse, refl, sym, ap, subst, ◌∙◌, inl, inr, arith, eq-eqb, eqb-true}
use Rattle.std.specs.List.{list_any}
use Rattle.std.proofs.lemmas.List.{reverse-append, map-append}
use Rattle.std.proofs.lemmas.List.Folds.{list_any-append}
use Rattle.sb_value.specs.Columns.{differing}
use Rattle.sb_value.specs.Flags.{share_place}
use Rattle.sb_value.specs.Laws.{AreLives, kind_triggers, brings_about, NewChangesTrigger}
use Rattle.sb_value.specs.NetEffect.{is_of, history, net_between, net_of, with_number, tuples_of, has_update, is_operation, is_triggered}
use Rattle.sb_value.specs.Table.{new_row, old_row}
use Rattle.sb_value.specs.Values.{same_row}
use Rattle.sb_value.specs.declared.id.Who.{Who}
use Rattle.sb_value.specs.declared.change.ChangeKind.{ChangeKind}
use Rattle.sb_value.specs.declared.change.ChangeKind.TheVariants.{Inserted, Deleted, Updated}
use Rattle.sb_value.specs.declared.change.Change.{Change}
use Rattle.sb_value.specs.declared.net.Net.TheVariants as net
use Rattle.sb_value.specs.declared.net.Triggers.{Triggers}
use Rattle.sb_rawlog.specs.Changes.{is_by, same_kind, is_op, is_tuple}
use Rattle.sb_rawlog.specs.Records.{Record, Rising, selected, walk}
use Rattle.sb_rawlog.specs.Sessions.{changes, changes_since, changes_between, TimesCut}
use Rattle.sb_net.specs.Hits.{is_hit, is_asked, any_asked, any_tuple, names_kind}
use Rattle.sb_net.specs.Newest.{is_newest}
use Rattle.sb_net.specs.Scopes.{changes_in}
use Rattle.sb_net.specs.declared.scope.ChangeScope.{ChangeScope}
use Rattle.sb_net.proofs.Folds.{last_of-end, history-since}
use Rattle.sb_net.proofs.Newest.{Stands, found_at, meets_at, ends_with, begins_with, newest_in}

-- ---- tests

or_swap : (a b c : Bool) → (a || (b || c)) ≡ (b || (a || c))
or_swap true true c = refl
or_swap true false c = refl
or_swap false true c = refl
or_swap false false c = refl

pub or_twice : (a c : Bool) → (a || c) ≡ (a || (a || c))
or_twice true c = refl
or_twice false c = refl

-- ---- lists

pub any-reverse : {X : Type 0} (p : X → Bool) (xs : List X) → list_any p (reverse xs) ≡ list_any p xs
any-reverse p [] = refl
any-reverse p (x ∷ xs) =
    ap (list_any p) (reverse-append (x ∷ []) xs) ∙ list_any-append p (reverse xs) (x ∷ []) ∙ or_comm (list_any p (reverse xs)) (p x || false)
    ∙ ap (λ b. b || list_any p (reverse xs)) (or-false (p x)) ∙ ap (λ b. p x || b) (any-reverse p xs)

pub list_any-map : {X Y : Type 0} (p : Y → Bool) (f : X → Y) (xs : List X) → list_any p (map f xs) ≡ list_any (λ x. p (f x)) xs
list_any-map p f [] = refl
list_any-map p f (x ∷ xs) = ap (λ b. p (f x) || b) (list_any-map p f xs)

-- ---- the tuples of a list of changes

module _ (p : ℕ → Bool) where
  any-with_number : (n : ℕ) (ms : List ℕ) → list_any p (with_number n ms) ≡ (p n || list_any p ms)
  any-with_number n [] = refl
  any-with_number n (m ∷ ms) =
      elim (n == m) as (λ b. (n == m) ≡ b → list_any p (cond b (m ∷ ms) (cond (nat_lt n m) (n ∷ m ∷ ms) (m ∷ with_number n ms))) ≡ (p n || (p m || list_any p ms))) [
        | true ↦ λ e. let same : m ≡ n = sym (eqb-true n m e) in ap (λ k. p k || list_any p ms) same ∙ or_twice (p n) (list_any p ms) ∙ ap (λ k. p n || (p k || list_any p ms)) (sym same)
        | false ↦ λ _. elim (nat_lt n m) as (λ b. list_any p (cond b (n ∷ m ∷ ms) (m ∷ with_number n ms)) ≡ (p n || (p m || list_any p ms))) [
          | true ↦ refl
          | false ↦ ap (λ b. p m || b) (any-with_number n ms) ∙ or_swap (p m) (p n) (list_any p ms)
        ]
      ] refl

  pub any-tuples_of : (table : ℕ) (cs : List Change) → list_any p (tuples_of cs table) ≡ list_any (λ c. (c.table == table) && p c.tuple) cs
  any-tuples_of table [] = refl
  any-tuples_of table (c ∷ cs) =
      elim (c.table == table) as (λ b. list_any p (cond b (with_number c.tuple (tuples_of cs table)) (tuples_of cs table)) ≡ ((b && p c.tuple) || list_any (λ d. (d.table == table) && p d.tuple) cs)) [
        | true ↦ any-with_number c.tuple (tuples_of cs table) ∙ ap (λ b. p c.tuple || b) (any-tuples_of table cs)
        | false ↦ any-tuples_of table cs
      ]

-- ---- kinds

-- a set that shares a place has one
has_one : (xs ys : List Bool) → share_place xs ys ≡ true → list_any (λ b. b) xs ≡ true
has_one [] ys h = h
has_one (x ∷ xs) [] h = absurd (cc)
has_one (x ∷ xs) (y ∷ ys) h = elim (or_cases (x && y) (share_place xs ys) h) [
  | inl here ↦ or_left x (list_any (λ b. b) xs) (and_parts x y here).0
  | inr there ↦ or_right x (list_any (λ b. b) xs) (has_one xs ys there)
]

may_update : (triggers : Triggers) (columns : List Bool) → has_update triggers columns ≡ true → names_kind triggers Updated ≡ true
may_update triggers columns h = elim (or_cases triggers.updated (share_place triggers.columns columns) h) [
  | inl any ↦ or_left triggers.updated _ any
  | inr listed ↦ or_right triggers.updated _ (not-not (list_any (λ b. b) triggers.columns) ∙ has_one triggers.columns columns listed)
]

-- where a change is an operation, its kind may be one
named : (triggers : Triggers) (k : ChangeKind) (c : Change) → kind_triggers k triggers c ≡ true → names_kind triggers k ≡ true
named triggers Inserted c h = h
named triggers Deleted c h = h
named triggers Updated c h = by (same_row (old_row c) (new_row c)) h
  where
    by : (b : Bool) → is_operation triggers (cond b None (Some (net.Updated (old_row c) (new_row c) (differing (old_row c) (new_row c))))) ≡ true → names_kind triggers Updated ≡ true
    by true h = absurd (cc)
    by false h = may_update triggers (differing (old_row c) (new_row c)) h

-- ---- the walks of a log

three : (q a b c : Bool) → ((((q || a) || b) || c) ≡ (q || ((a || b) || c))) × (((a || (q || b)) || c) ≡ (q || ((a || b) || c))) × (((a || b) || (q || c)) ≡ (q || ((a || b) || c)))
three true true b c = (refl, refl, refl)
three true false true c = (refl, refl, refl)
three true false false c = (refl, refl, refl)
three false a b c = (refl, refl, refl)

module _ (p : ChangeKind → Record → Bool) (who : Who) (table since : ℕ) where
  abbrev of : ChangeKind → List Record → Bool
  of k rs = list_any (p k) (selected (is_op who table k) since rs)

  abbrev met : List Record → Bool
  met rs = list_any (λ r. (r.1.table == table) && p r.1.kind r) (selected (is_by who) since rs)

  -- what a test finds by kinds is what it finds at all
  pub by_kinds : (rs : List Record) → ((of Inserted rs || of Deleted rs) || of Updated rs) ≡ met rs
  unfolding selected
  by_kinds [] = refl
  by_kinds (r ∷ rs) =
      let w : Record → Bool = λ s. (s.1.table == table) && p s.1.kind s in
      let i : List Record = selected (is_op who table Inserted) since rs in
      let d : List Record = selected (is_op who table Deleted) since rs in
      let u : List Record = selected (is_op who table Updated) since rs in
      let all : List Record = selected (is_by who) since rs in
      let on : ((list_any (p Inserted) i || list_any (p Deleted) d) || list_any (p Updated) u) ≡ list_any w all = by_kinds rs in
      let by : ChangeKind → Bool = λ k. (r.1.table == table) && same_kind r.1.kind k in
      elim (nat_le since r.0) as (λ x. ((list_any (p Inserted) (cond (x && (is_by who r.1 && by Inserted)) (r ∷ i) i) || list_any (p Deleted) (cond (x && (is_by who r.1 && by Deleted)) (r ∷ d) d))
      || list_any (p Updated) (cond (x && (is_by who r.1 && by Updated)) (r ∷ u) u)) ≡ list_any w (cond (x && is_by who r.1) (r ∷ all) all)) [
        | false ↦ on
        | true ↦ elim (is_by who r.1) as (λ x. ((list_any (p Inserted) (cond (x && by Inserted) (r ∷ i) i) || list_any (p Deleted) (cond (x && by Deleted) (r ∷ d) d))
            || list_any (p Updated) (cond (x && by Updated) (r ∷ u) u)) ≡ list_any w (cond x (r ∷ all) all)) [
              | false ↦ on
              | true ↦ elim (r.1.table == table) as (λ x. ((list_any (p Inserted) (cond (x && same_kind r.1.kind Inserted) (r ∷ i) i) || list_any (p Deleted) (cond (x && same_kind r.1.kind Deleted) (r ∷ d) d))
                  || list_any (p Updated) (cond (x && same_kind r.1.kind Updated) (r ∷ u) u)) ≡ ((x && p r.1.kind r) || list_any w all)) [
                    | false ↦ on
                    | true ↦ elim r.1.kind as (λ k. ((list_any (p Inserted) (cond (same_kind k Inserted) (r ∷ i) i) || list_any (p Deleted) (cond (same_kind k Deleted) (r ∷ d) d))
                        || list_any (p Updated) (cond (same_kind k Updated) (r ∷ u) u)) ≡ (p k r || list_any w all)) [
                          | Inserted ↦ (three (p Inserted r) (list_any (p Inserted) i) (list_any (p Deleted) d) (list_any (p Updated) u)).0 ∙ ap (λ b. p Inserted r || b) on
                          | Deleted ↦ (three (p Deleted r) (list_any (p Inserted) i) (list_any (p Deleted) d) (list_any (p Updated) u)).1 ∙ ap (λ b. p Deleted r || b) on
                          | Updated ↦ (three (p Updated r) (list_any (p Inserted) i) (list_any (p Deleted) d) (list_any (p Updated) u)).2 ∙ ap (λ b. p Updated r || b) on
                        ]
                  ]
            ]
      ]

-- the last change of a tuple whose net effect is an operation is a delete only where deletes are, and an insert only where inserts are
abbrev named_last : ChangeKind → Triggers → Bool
named_last Inserted triggers = triggers.inserted
named_last Deleted triggers = triggers.deleted
named_last Updated triggers = true

between_named : (triggers : Triggers) (k m : ChangeKind) (c d : Change) → is_operation triggers (net_between k m c d) ≡ true → named_last m triggers ≡ true
between_named triggers Inserted Inserted c d h = h
between_named triggers Inserted Deleted c d h = absurd (cc)
between_named triggers Inserted Updated c d h = refl
between_named triggers Deleted Inserted c d h = absurd (cc)
between_named triggers Deleted Deleted c d h = h
between_named triggers Deleted Updated c d h = refl
between_named triggers Updated Inserted c d h = absurd (cc)
between_named triggers Updated Deleted c d h = h
between_named triggers Updated Updated c d h = refl

last_named : (triggers : Triggers) (cs : List Change) (d : Change) → is_operation triggers (net_of (cs ++ d ∷ [])) ≡ true → named_last d.kind triggers ≡ true
last_named triggers [] d h = between_named triggers d.kind d.kind d d h
last_named triggers (c ∷ cs) d h = between_named triggers c.kind d.kind c d (sym (ap (λ (e : Change). is_operation triggers (net_between c.kind e.kind c e)) (last_of-end c cs d)) ∙ h)

both : (a b : Bool) → a ≡ true → b ≡ true → (a && b) ≡ true
both a b e f = λ i. e i && f i

same_truth : (a b : Bool) → (a ≡ true → b ≡ true) → (b ≡ true → a ≡ true) → a ≡ b
same_truth true true f g = refl
same_truth true false f g = sym (f refl)
same_truth false true f g = g refl
same_truth false false f g = refl

-- where a tuple is hit, a change of the list is of the tuple
hit_in : (triggers : Triggers) (table tuple : ℕ) (p : ℕ → Bool) (cs : List Change) → is_operation triggers (net_of (history cs table tuple)) ≡ true → p tuple ≡ true → list_any (λ (c : Change). (c.table == table) && p c.tuple) cs ≡ true
hit_in triggers table tuple p [] e is = absurd (cc)
hit_in triggers table tuple p (c ∷ cs) e is =
    elim (is_of table tuple c) as (λ b. is_of table tuple c ≡ b → is_operation triggers (net_of (cond b (c ∷ history cs table tuple) (history cs table tuple))) ≡ true
    → (((c.table == table) && p c.tuple) || list_any (λ (d : Change). (d.table == table) && p d.tuple) cs) ≡ true) [
      | true ↦ λ of _.
          let on = and_parts (c.table == table) (c.tuple == tuple) of in
          or_left ((c.table == table) && p c.tuple) (list_any (λ (d : Change). (d.table == table) && p d.tuple) cs) (both (c.table == table) (p c.tuple) on.0 (ap p (eqb-true c.tuple tuple on.1) ∙ is))
      | false ↦ λ _ h. or_right ((c.table == table) && p c.tuple) (list_any (λ (d : Change). (d.table == table) && p d.tuple) cs) (hit_in triggers table tuple p cs h is)
    ] refl e

-- a tuple that is hit triggers the rule
pub hit_is_enough : (triggers : Triggers) (table tuple : ℕ) (cs : List Change) → is_hit triggers table cs tuple ≡ true → is_triggered triggers table cs ≡ true
hit_is_enough triggers table tuple cs e = any-tuples_of (is_hit triggers table cs) table cs ∙ hit_in triggers table tuple (is_hit triggers table cs) cs e e

module _ (triggers : Triggers) (s : ChangeScope) (tested clock : ℕ) (rs : List Record) (laws : NewChangesTrigger) (cut : TimesCut rs) (rising : Rising 0 rs clock) (times : s.since ≤ tested) (lives : AreLives (changes_in s rs))
    (quiet : is_triggered triggers s.table (changes_between s.who s.since tested rs) ≡ false) where
  abbrev all : List Change
  all = changes_in s rs

  abbrev hit : ℕ → Bool
  hit tuple = is_hit triggers s.table all tuple

  abbrev on_kind : ChangeKind → Change → Bool
  on_kind k = is_op s.who s.table k

  abbrev asked : ChangeKind → Record → Bool
  asked k r = is_asked s rs k r && hit r.1.tuple

  abbrev pub found : ChangeKind → Bool
  found k = any_asked triggers s k rs (walk (on_kind k) tested rs)

  abbrev named_found : ChangeKind → Bool
  named_found k = names_kind triggers k && found k

  abbrev any : Bool
  any = (named_found Inserted || named_found Deleted) || named_found Updated

  abbrev triggered : Bool
  triggered = is_triggered triggers s.table all

  found_is : (k : ChangeKind) → found k ≡ list_any (asked k) (selected (on_kind k) tested rs)
  unfolding walk
  found_is k = any-reverse (asked k) (selected (on_kind k) tested rs)

  of_kind : (k : ChangeKind) → named_found k ≡ true → any ≡ true
  of_kind Inserted e = or_left (named_found Inserted || named_found Deleted) (named_found Updated) (or_left (named_found Inserted) (named_found Deleted) e)
  of_kind Deleted e = or_left (named_found Inserted || named_found Deleted) (named_found Updated) (or_right (named_found Inserted) (named_found Deleted) e)
  of_kind Updated e = or_right (named_found Inserted || named_found Deleted) (named_found Updated) e

  -- a change in the scope whose tuple is hit triggers the rule
  hit_triggers : (r : Record) → Stands rs r → (nat_le s.since r.0 && is_by s.who r.1) ≡ true → ((r.1.table == s.table) && hit r.1.tuple) ≡ true → triggered ≡ true
  hit_triggers r at it on =
      any-tuples_of hit s.table all ∙ list_any-map (λ (c : Change). (c.table == s.table) && hit c.tuple) (λ (q : Record). q.1) (selected (is_by s.who) s.since rs)
      ∙ meets_at (λ (q : Record). (q.1.table == s.table) && hit q.1.tuple) (is_by s.who) s.since rs r at it on

  sound : (k : ChangeKind) → found k ≡ true → triggered ≡ true
  sound k e =
      let w = found_at (asked k) (on_kind k) tested rs (sym (found_is k) ∙ e) in
      let r : Record = w.0 in
      let it = and_parts (nat_le tested r.0) (on_kind k r.1) w.1.1.0 in
      let op = and_parts (is_by s.who r.1) ((r.1.table == s.table) && same_kind r.1.kind k) it.1 in
      let on = and_parts (r.1.table == s.table) (same_kind r.1.kind k) op.1 in
      let is = and_parts (is_asked s rs k r) (hit r.1.tuple) w.1.1.1 in
      let late : s.since ≤ r.0 = (let le = leb-true tested r.0 it.0 in omega (arith, times)) in
      hit_triggers r w.1.0 (both (nat_le s.since r.0) (is_by s.who r.1) (le-leb s.since r.0 late) op.0) (both (r.1.table == s.table) (hit r.1.tuple) on.0 is.1)

  selected_by : (k : ChangeKind) (r : Record) → tested ≤ r.0 → is_by s.who r.1 ≡ true → (r.1.table == s.table) ≡ true → same_kind r.1.kind k ≡ true → (nat_le tested r.0 && on_kind k r.1) ≡ true
  selected_by k r late who table kind =
      both (nat_le tested r.0) (on_kind k r.1) (le-leb tested r.0 late) (both (is_by s.who r.1) ((r.1.table == s.table) && same_kind r.1.kind k) who (both (r.1.table == s.table) (same_kind r.1.kind k) table kind))

  finds : (k : ChangeKind) (r : Record) → Stands rs r → (nat_le tested r.0 && on_kind k r.1) ≡ true → asked k r ≡ true → found k ≡ true
  finds k r at it here = found_is k ∙ meets_at (asked k) (on_kind k) tested rs r at it here

  -- the newest change of a tuple that is hit is found by its kind
  at_newest : (d : Record) → Stands rs d → tested ≤ d.0 → is_by s.who d.1 ≡ true → (d.1.table == s.table) ≡ true → hit d.1.tuple ≡ true → is_newest s rs d.1.tuple d.0 ≡ true
      → named_last d.1.kind triggers ≡ true → names_kind triggers Updated ≡ true → any ≡ true
  at_newest d at late who table is new last may =
      elim d.1.kind as (λ k. d.1.kind ≡ k → named_last k triggers ≡ true → any ≡ true) [
        | Inserted ↦ λ e t. of_kind Inserted (both triggers.inserted (found Inserted) t (finds Inserted d at (selected_by Inserted d late who table (ap (λ j. same_kind j Inserted) e)) is))
        | Deleted ↦ λ e t. of_kind Deleted (both triggers.deleted (found Deleted) t (finds Deleted d at (selected_by Deleted d late who table (ap (λ j. same_kind j Deleted) e)) is))
        | Updated ↦ λ e _. of_kind Updated (both (names_kind triggers Updated) (found Updated) may (finds Updated d at (selected_by Updated d late who table (ap (λ j. same_kind j Updated) e)) (both (is_newest s rs d.1.tuple d.0) (hit d.1.tuple) new is)))
      ] refl last

  -- so is a tuple that is hit and has an update which isn't older than the last test
  by_update : (r : Record) → Stands rs r → tested ≤ r.0 → is_by s.who r.1 ≡ true → (r.1.table == s.table) ≡ true → hit r.1.tuple ≡ true → names_kind triggers Updated ≡ true → any ≡ true
  by_update r at late who table is may =
      let q : Change → Bool = is_tuple s.who s.table r.1.tuple in
      let fits : q r.1 ≡ true = both (is_by s.who r.1) (is_of s.table r.1.tuple r.1) who (both (r.1.table == s.table) (r.1.tuple == r.1.tuple) table (eq-eqb r.1.tuple r.1.tuple refl)) in
      let n = newest_in q s.since clock rs r rising at (both (nat_le s.since r.0) (q r.1) (le-leb s.since r.0 (omega (arith, times, late))) fits) in
      let d : Record = n.0 in let last = n.1.0 in
      let it = and_parts (nat_le s.since d.0) (q d.1) last.it in
      let of_it = and_parts (is_by s.who d.1) (is_of s.table r.1.tuple d.1) it.1 in
      let on = and_parts (d.1.table == s.table) (d.1.tuple == r.1.tuple) of_it.1 in
      let same : d.1.tuple ≡ r.1.tuple = eqb-true d.1.tuple r.1.tuple on.1 in
      let hit_too : hit d.1.tuple ≡ true = ap hit same ∙ is in
      let ends : history all s.table d.1.tuple ≡ changes (selected q s.since last.at.before) ++ d.1 ∷ [] =
      ap (history all s.table) same ∙ history-since s.who s.table r.1.tuple s.since rs ∙ ap changes (ends_with q s.since rs d last) ∙ map-append (λ (p : Record). p.1) (selected q s.since last.at.before) (d ∷ []) in
      at_newest d last.at (omega (arith, late, n.1.1)) of_it.0 on.0 hit_too (ap (λ t. is_newest s rs t d.0) same ∙ begins_with q s.since rs d last)
      (last_named triggers (changes (selected q s.since last.at.before)) d.1 (ap (λ l. is_operation triggers (net_of l)) (sym ends) ∙ hit_too)) may

  complete : triggered ≡ true → any ≡ true
  complete h =
      let parts : all ≡ changes_between s.who s.since tested rs ++ changes_since s.who tested rs = cut s.who s.since tested times in
      let new = changes_since s.who tested rs in
      let brought : list_any (brings_about triggers s.table all) new ≡ true =
      ap (λ (cs : List Change). list_any (brings_about triggers s.table cs) new) parts
      ∙ sym (laws triggers s.table (changes_between s.who s.since tested rs) new (subst AreLives parts lives) quiet)
      ∙ ap (is_triggered triggers s.table) (sym parts) ∙ h in
      let w = found_at (λ (r : Record). brings_about triggers s.table all r.1) (is_by s.who) tested rs (sym (list_any-map (brings_about triggers s.table all) (λ (r : Record). r.1) (selected (is_by s.who) tested rs)) ∙ brought) in
      let r : Record = w.0 in let at = w.1.0 in
      let it = and_parts (nat_le tested r.0) (is_by s.who r.1) w.1.1.0 in
      let late : tested ≤ r.0 = leb-true tested r.0 it.0 in
      let on = and_parts (r.1.table == s.table) (kind_triggers r.1.kind triggers r.1 && hit r.1.tuple) w.1.1.1 in
      let is = and_parts (kind_triggers r.1.kind triggers r.1) (hit r.1.tuple) on.1 in
      elim r.1.kind as (λ k. r.1.kind ≡ k → kind_triggers k triggers r.1 ≡ true → any ≡ true) [
        | Inserted ↦ λ e t. of_kind Inserted (both triggers.inserted (found Inserted) t (finds Inserted r at (selected_by Inserted r late it.1 on.0 (ap (λ j. same_kind j Inserted) e)) is.1))
        | Deleted ↦ λ e t. of_kind Deleted (both triggers.deleted (found Deleted) t (finds Deleted r at (selected_by Deleted r late it.1 on.0 (ap (λ j. same_kind j Deleted) e)) is.1))
        | Updated ↦ λ _ t. by_update r at late it.1 on.0 is.1 (named triggers Updated r.1 t)
      ] refl is.0

  named_is : (k : ChangeKind) → named_found k ≡ true → found k ≡ true
  named_is k e = (and_parts (names_kind triggers k) (found k) e).1

  -- a rule is triggered where a tuple that is asked is hit
  pub met_as : ((found Inserted || found Deleted) || found Updated) ≡ triggered
  met_as = same_truth ((found Inserted || found Deleted) || found Updated) triggered (λ e. elim (or_cases (found Inserted || found Deleted) (found Updated) e) [
    | inl two ↦ elim (or_cases (found Inserted) (found Deleted) two) [ inl i ↦ sound Inserted i | inr d ↦ sound Deleted d ]
    | inr u ↦ sound Updated u
  ]) (λ h. elim (or_cases (named_found Inserted || named_found Deleted) (named_found Updated) (complete h)) [
    | inl two ↦ or_left (found Inserted || found Deleted) (found Updated) (elim (or_cases (named_found Inserted) (named_found Deleted) two) [
      | inl i ↦ or_left (found Inserted) (found Deleted) (named_is Inserted i)
      | inr d ↦ or_right (found Inserted) (found Deleted) (named_is Deleted d)
    ])
    | inr u ↦ or_right (found Inserted || found Deleted) (found Updated) (named_is Updated u)
  ])

  -- kinds that the rule doesn't name needn't be looked at
  pub triggered_as : any ≡ triggered
  triggered_as = same_truth any triggered (λ e. elim (or_cases (named_found Inserted || named_found Deleted) (named_found Updated) e) [
    | inl two ↦ elim (or_cases (named_found Inserted) (named_found Deleted) two) [ inl i ↦ sound Inserted (named_is Inserted i) | inr d ↦ sound Deleted (named_is Deleted d) ]
    | inr u ↦ sound Updated (named_is Updated u)
  ]) complete

-- without more, a rule is triggered where a change of any kind is of a tuple that is hit
pub triggered-at_all : (triggers : Triggers) (who : Who) (table since : ℕ) (rs : List Record) → let all = changes_since who since rs in let found = λ (k : ChangeKind). any_tuple triggers table all (walk (is_op who table k) since rs) in
    ((found Inserted || found Deleted) || found Updated) ≡ is_triggered triggers table all
unfolding walk
triggered-at_all triggers who table since rs =
    let all = changes_since who since rs in
    let hit : ℕ → Bool = is_hit triggers table all in
    let p : ChangeKind → Record → Bool = λ _ r. hit r.1.tuple in
    let turned : (k : ChangeKind) → any_tuple triggers table all (reverse (selected (is_op who table k) since rs)) ≡ list_any (p k) (selected (is_op who table k) since rs) = λ k. any-reverse (p k) (selected (is_op who table k) since rs) in
    (λ i. (turned Inserted i || turned Deleted i) || turned Updated i)
    ∙ by_kinds p who table since rs
    ∙ sym (any-tuples_of hit table all ∙ list_any-map (λ (c : Change). (c.table == table) && hit c.tuple) (λ (r : Record). r.1) (selected (is_by who) since rs))

-- one of three tests decides, or the last one does
pub first-found : (a b c t : Bool) → a ≡ true → ((a || b) || c) ≡ t → true ≡ t
first-found a b c t e h = ap (λ x. (x || b) || c) (sym e) ∙ h

pub second-found : (a b c t : Bool) → b ≡ true → ((a || b) || c) ≡ t → true ≡ t
second-found a b c t e h = sym (or_left (a || b) c (or_right a b e)) ∙ h

pub third-found : (a b c t : Bool) → a ≡ false → b ≡ false → ((a || b) || c) ≡ t → c ≡ t
third-found a b c t e f h = (λ i. (sym e i || sym f i) || c) ∙ h
