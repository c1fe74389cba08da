-- A time that is set.
use Rattle.std.proofs.Common.{◌≡◌, ◌∙◌, ℕ, ◌<◌, Bool, true, false, ◌&&◌, ◌||◌, ◌==◌, if◌then◌else◌, List, [], length, slice_set, slice_index, slice_index_or, refl, ap, sym, eq-eqb}
use Rattle.std.proofs.Math.Bool.{or-false, or-true}
use Rattle.std.proofs.lemmas.Bool.{eqb-true, eqb-false}
use Rattle.std.proofs.lemmas.List.{get_or-set_same, get_or-set_other}
use Rattle.sb_value.specs.Flags.{flag_at}
use Rattle.sb_process.specs.Transactions.{times_of}
use Rattle.sb_process.specs.declared.times.Times.{Times}

-- one of the two times that count
abbrev pub time_in : (Times → List ℕ) → List Times → List (List Bool) → ℕ → ℕ → ℕ
time_in f rows marked s r = if flag_at (slice_index_or marked s []) r then slice_index (f (times_of rows r)) s else 0

module _ (f : Times → List ℕ) (rows : List Times) (marked : List (List Bool)) (session rule time : ℕ) (row : Times) (flags : List Bool)
    (there : rule < length rows) (is_session : session < length marked)
    (is_set : (s : ℕ) → slice_index (f row) s ≡ (if s == session then time else slice_index (f (times_of rows rule)) s))
    (members : (r : ℕ) → flag_at flags r ≡ (flag_at (slice_index_or marked session []) r || (r == rule))) where
  own : (r : ℕ) (same : Bool) → (r == rule) ≡ same →
      (if flag_at flags r then slice_index (f (times_of (slice_set rows rule row) r)) session else 0) ≡ (if same then time else time_in f rows marked session r)
  own r true e =
      let at = eqb-true r rule e in
      ap (λ b. if b then slice_index (f (times_of (slice_set rows rule row) r)) session else 0) (members r ∙ ap (λ b. flag_at (slice_index_or marked session []) r || b) e ∙ or-true (flag_at (slice_index_or marked session []) r))
      ∙ ap (λ x. slice_index (f (times_of (slice_set rows rule row) x)) session) at
      ∙ ap (λ t. slice_index (f t) session) (get_or-set_same rows rule row (record { marks = []; tested = [] }) there)
      ∙ is_set session
      ∙ ap (λ b. if b then time else slice_index (f (times_of rows rule)) session) (eq-eqb session session refl)
  own r false e =
      ap (λ b. if b then slice_index (f (times_of (slice_set rows rule row) r)) session else 0) (members r ∙ ap (λ b. flag_at (slice_index_or marked session []) r || b) e ∙ or-false (flag_at (slice_index_or marked session []) r))
      ∙ ap (λ t. if flag_at (slice_index_or marked session []) r then slice_index (f t) session else 0) (get_or-set_other rows rule r row (record { marks = []; tested = [] }) (eqb-false r rule e))

  other : (s r : ℕ) → (s == session) ≡ false → (same : Bool) → (r == rule) ≡ same → slice_index (f (times_of (slice_set rows rule row) r)) s ≡ slice_index (f (times_of rows r)) s
  other s r apart true e =
      let at = eqb-true r rule e in
      ap (λ x. slice_index (f (times_of (slice_set rows rule row) x)) s) at
      ∙ ap (λ t. slice_index (f t) s) (get_or-set_same rows rule row (record { marks = []; tested = [] }) there)
      ∙ is_set s
      ∙ ap (λ b. if b then time else slice_index (f (times_of rows rule)) s) apart
      ∙ ap (λ x. slice_index (f (times_of rows x)) s) (sym at)
  other s r apart false e = ap (λ t. slice_index (f t) s) (get_or-set_other rows rule r row (record { marks = []; tested = [] }) (eqb-false r rule e))

  -- a time is set in one session, and no other changes
  pub set_time : (s r : ℕ) → time_in f (slice_set rows rule row) (slice_set marked session flags) s r ≡ (if (s == session) && (r == rule) then time else time_in f rows marked s r)
  set_time s r = by (s == session) refl
    where
      by : (same : Bool) → (s == session) ≡ same → time_in f (slice_set rows rule row) (slice_set marked session flags) s r ≡ (if same && (r == rule) then time else time_in f rows marked s r)
      by true e =
          let at = eqb-true s session e in
          ap (λ x. time_in f (slice_set rows rule row) (slice_set marked session flags) x r) at
          ∙ ap (λ l. if flag_at l r then slice_index (f (times_of (slice_set rows rule row) r)) session else 0) (get_or-set_same marked session flags [] is_session)
          ∙ own r (r == rule) refl
          ∙ ap (λ x. if r == rule then time else time_in f rows marked x r) (sym at)
      by false e =
          ap (λ l. if flag_at l r then slice_index (f (times_of (slice_set rows rule row) r)) s else 0) (get_or-set_other marked session s flags [] (eqb-false s session e))
          ∙ ap (λ t. if flag_at (slice_index_or marked s []) r then t else 0) (other s r e (r == rule) refl)

-- what is set to what it was is as before
pub same_there : (times : ℕ → ℕ → ℕ) (session rule s r : ℕ) → times s r ≡ (if (s == session) && (r == rule) then times session rule else times s r)
same_there times session rule s r = by (s == session) refl (r == rule) refl
  where
    by : (one : Bool) → (s == session) ≡ one → (two : Bool) → (r == rule) ≡ two → times s r ≡ (if one && two then times session rule else times s r)
    by true p true q = λ i. times (eqb-true s session p i) (eqb-true r rule q i)
    by true p false q = refl
    by false p two q = refl
