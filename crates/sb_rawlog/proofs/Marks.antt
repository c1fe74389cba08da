-- Times as marks in a session's changes.
use Rattle.std.proofs.Common.{◌≡◌, ℕ, ◌+◌, ◌≤◌, Bool, true, false, cond, ◌&&◌, List, [], ◌∷◌, ◌++◌, append-nil, length, drop, nat_lt, nat_le, refl, sym, ap, ◌∙◌, arith}
use Rattle.std.specs.List.{filter}
use Rattle.std.proofs.lemmas.List.{drop-map, map-append}
use Rattle.std.proofs.lemmas.List.Elements.{filter-append}
use Rattle.std.proofs.lemmas.Bool.{lt-leb, le-leb, ltb-true, ltb-false, le-ltb}
use Rattle.sb_value.specs.declared.id.Who.{Who}
use Rattle.sb_value.specs.declared.change.Change.{Change}
use Rattle.sb_rawlog.specs.Changes.{is_by}
use Rattle.sb_rawlog.specs.Records.{Record, Rising, selected, before}
use Rattle.sb_rawlog.specs.Sessions.{records_by, changes, changes_since, mark_at, MarksCut, TimesCut}
use Rattle.sb_rawlog.proofs.Rises.{rising-filter, before-none, before-all}
use Rattle.sb_rawlog.proofs.Sessions.{filter-swap}

abbrev newer : ℕ → List Record → List Record
newer time rs = filter (λ r. nat_le time r.0) rs

-- in rising time those that are no older than a time follow those that are
newer-drop : (time low : ℕ) (rs : List Record) (clock : ℕ) → Rising low rs clock → newer time rs ≡ drop (length (before time rs)) rs
unfolding before
newer-drop time low [] clock up = refl
newer-drop time low (r ∷ rs) clock up =
    elim (nat_lt r.0 time) as (λ b. nat_lt r.0 time ≡ b → cond (nat_le time r.0) (r ∷ newer time rs) (newer time rs) ≡ drop (length (cond b (r ∷ before time rs) (before time rs))) (r ∷ rs)) [
      | true ↦ λ e.
          ap (λ b. cond b (r ∷ newer time rs) (newer time rs)) (lt-leb time r.0 (ltb-true r.0 time e)) ∙ newer-drop time (r.0 + 1) rs clock up.1
      | false ↦ λ e.
          let from : time ≤ r.0 = ltb-false r.0 time e in
          let none : before time rs ≡ [] = before-none time (r.0 + 1) rs clock (omega arith) up.1 in
          ap (λ b. cond b (r ∷ newer time rs) (newer time rs)) (le-leb time r.0 from)
          ∙ ap (λ l. r ∷ l) (newer-drop time (r.0 + 1) rs clock up.1 ∙ ap (λ l. drop (length l) rs) none)
          ∙ sym (ap (λ l. drop (length l) (r ∷ rs)) none)
    ] refl

-- the session's records alone say which of its changes are no older than a time
selected-by : (who : Who) (time : ℕ) (rs : List Record) → selected (is_by who) time rs ≡ newer time (records_by who rs)
unfolding selected records_by
selected-by who time [] = refl
selected-by who time (r ∷ rs) =
    elim (is_by who r.1) as (λ b. cond (nat_le time r.0 && b) (r ∷ selected (is_by who) time rs) (selected (is_by who) time rs) ≡ newer time (cond b (r ∷ records_by who rs) (records_by who rs))) [
      | true ↦ elim (nat_le time r.0) as (λ b. cond (b && true) (r ∷ selected (is_by who) time rs) (selected (is_by who) time rs) ≡ cond b (r ∷ newer time (records_by who rs)) (newer time (records_by who rs))) [
        | true ↦ ap (λ l. r ∷ l) (selected-by who time rs)
        | false ↦ selected-by who time rs
      ]
      | false ↦ elim (nat_le time r.0) as (λ b. cond (b && false) (r ∷ selected (is_by who) time rs) (selected (is_by who) time rs) ≡ newer time (records_by who rs)) [
        | true ↦ selected-by who time rs
        | false ↦ selected-by who time rs
      ]
    ]

rising-by : (who : Who) (rs : List Record) (clock : ℕ) → Rising 0 rs clock → Rising 0 (records_by who rs) clock
unfolding records_by
rising-by who rs clock up = rising-filter (λ r. is_by who r.1) 0 rs clock up

pub marks_cut : (rs : List Record) (clock : ℕ) → Rising 0 rs clock → MarksCut rs
marks_cut rs clock up who time =
    ap changes (selected-by who time rs ∙ newer-drop time 0 (records_by who rs) clock (rising-by who rs clock up)) ∙ sym (drop-map (λ (r : Record). r.1) (mark_at who time rs) (records_by who rs))

-- ---- two times

abbrev between : ℕ → ℕ → List Record → List Record
between since until rs = filter (λ r. nat_le since r.0 && nat_lt r.0 until) rs

gone : (r : Record) (rs : List Record) (b : Bool) → rs ≡ [] → cond (b && false) (r ∷ rs) rs ≡ []
gone r rs true e = e
gone r rs false e = e

none-between : (since until low : ℕ) (rs : List Record) (clock : ℕ) → until ≤ low → Rising low rs clock → between since until rs ≡ []
none-between since until low [] clock le up = refl
none-between since until low (r ∷ rs) clock le up =
    let late : nat_lt r.0 until ≡ false = le-ltb r.0 until (omega (arith, up.0)) in
    ap (λ b. cond (nat_le since r.0 && b) (r ∷ between since until rs) (between since until rs)) late
    ∙ gone r (between since until rs) (nat_le since r.0) (none-between since until (r.0 + 1) rs clock (omega (arith, up.0)) up.1)

newer-cut : (since until low : ℕ) (rs : List Record) (clock : ℕ) → since ≤ until → Rising low rs clock → newer since rs ≡ between since until rs ++ newer until rs
newer-cut since until low [] clock le up = refl
newer-cut since until low (r ∷ rs) clock le up =
    let rest = newer-cut since until (r.0 + 1) rs clock le up.1 in
    elim (nat_lt r.0 until) as (λ b. nat_lt r.0 until ≡ b → cond (nat_le since r.0) (r ∷ newer since rs) (newer since rs)
    ≡ cond (nat_le since r.0 && b) (r ∷ between since until rs) (between since until rs) ++ cond (nat_le until r.0) (r ∷ newer until rs) (newer until rs)) [
      | true ↦ λ e.
          early (nat_le since r.0) rest
          ∙ ap (λ b. cond (nat_le since r.0 && true) (r ∷ between since until rs) (between since until rs) ++ cond b (r ∷ newer until rs) (newer until rs)) (sym (lt-leb until r.0 (ltb-true r.0 until e)))
      | false ↦ λ e.
          let from : until ≤ r.0 = ltb-false r.0 until e in
          let none : between since until rs ≡ [] = none-between since until (r.0 + 1) rs clock (omega arith) up.1 in
          ap (λ b. cond b (r ∷ newer since rs) (newer since rs)) (le-leb since r.0 (omega arith))
          ∙ ap (λ l. r ∷ l) (rest ∙ ap (λ l. l ++ newer until rs) none)
          ∙ (λ j. sym (gone r (between since until rs) (nat_le since r.0) none) j ++ cond (sym (le-leb until r.0 from) j) (r ∷ newer until rs) (newer until rs))
    ] refl
  where
    early : (b : Bool) → newer since rs ≡ between since until rs ++ newer until rs
        → cond b (r ∷ newer since rs) (newer since rs) ≡ cond (b && true) (r ∷ between since until rs) (between since until rs) ++ newer until rs
    early true e = ap (λ l. r ∷ l) e
    early false e = e

pub times_cut : (rs : List Record) (clock : ℕ) → Rising 0 rs clock → TimesCut rs
times_cut rs clock up who since until le =
    ap changes (selected-by who since rs ∙ newer-cut since until 0 (records_by who rs) clock le (rising-by who rs clock up) ∙ ap (λ l. between since until (records_by who rs) ++ l) (sym (selected-by who until rs)))
    ∙ map-append (λ (r : Record). r.1) (between since until (records_by who rs)) (selected (is_by who) until rs)

-- ---- what a change of the log does to them

pub changes_since-kept : (who : Who) (old new : List Record) → records_by who new ≡ records_by who old → (time : ℕ) → changes_since who time new ≡ changes_since who time old
changes_since-kept who old new same time = ap changes (selected-by who time new ∙ ap (newer time) same ∙ sym (selected-by who time old))

pub mark_at-kept : (who : Who) (old new : List Record) → records_by who new ≡ records_by who old → (time : ℕ) → mark_at who time new ≡ mark_at who time old
mark_at-kept who old new same time = ap (λ l. length (before time l)) same

-- at the start every mark is 0
pub mark_at-zero : (who : Who) (rs : List Record) (clock : ℕ) → Rising 0 rs clock → mark_at who 0 rs ≡ 0
mark_at-zero who rs clock up = ap length (before-none 0 0 (records_by who rs) clock (omega arith) (rising-by who rs clock up))

-- the clock marks all of a session's changes
pub mark_at-now : (who : Who) (rs : List Record) (clock : ℕ) → Rising 0 rs clock → mark_at who clock rs ≡ length (records_by who rs)
mark_at-now who rs clock up = ap length (before-all clock 0 (records_by who rs) clock (omega arith) (rising-by who rs clock up))

-- a further change leaves the marks of times up to its own
pub mark_at-push : (who : Who) (rs : List Record) (clock : ℕ) (c : Change) (time : ℕ) → time ≤ clock → mark_at who time (rs ++ (clock, c) ∷ []) ≡ mark_at who time rs
unfolding records_by before
mark_at-push who rs clock c time le =
    ap length
    (filter-swap (λ (r : Record). nat_lt r.0 time) (λ r. is_by who r.1) (rs ++ (clock, c) ∷ [])
    ∙ ap (filter (λ (r : Record). is_by who r.1)) (filter-append (λ (r : Record). nat_lt r.0 time) rs ((clock, c) ∷ []) ∙ ap (λ b. before time rs ++ cond b ((clock, c) ∷ []) []) (le-ltb clock time le) ∙ append-nil (before time rs))
    ∙ filter-swap (λ (r : Record). is_by who r.1) (λ r. nat_lt r.0 time) rs)
