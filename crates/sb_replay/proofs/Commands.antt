-- The rows of a script, one by one.
use Rattle.std.proofs.Common.{◌≡◌, ◌∙◌, ◌<◌, ◌==◌, ◌&&◌, if◌then◌else◌, ℕ, zero, suc, Bool, true, false, refl, ap, sym, subst, append-nil, List, [], ◌∷◌, ◌++◌, length, map, get_or, slice_set, arith, Vec}
use Rattle.std.proofs.lemmas.Bool.{eqb-true, eqb-false}
use Rattle.std.specs.Global.{Global}
use Rattle.sb_tenant.specs.Limits.{session_count}
use Rattle.sb_wire.specs.Lines.{Addressed}
use Rattle.sb_replay.specs.Input.{rank}
use Rattle.sb_replay.specs.Scripts.{AddsCommand, commands_at, commands_of, rows_of}

abbrev Rows : Type 0
Rows = List (Vec (Vec ℕ Global) Global)

-- a row more without a command
pub fresh_more : (rows : Rows) (row : Vec (Vec ℕ Global) Global) → row.items ≡ [] → ((j : ℕ) → commands_at (rows_of rows) j ≡ []) → (k : ℕ) → commands_at (rows_of (rows ++ row ∷ [])) k ≡ []
fresh_more [] row e h zero = ap (map (λ c. c.items)) e
fresh_more [] row e h (suc k) = refl
fresh_more (r ∷ rs) row e h zero = h 0
fresh_more (r ∷ rs) row e h (suc k) = fresh_more rs row e (λ j. h (suc j)) k

-- a row put anew
pub set_same : (rows : Rows) (i : ℕ) (new : Vec (Vec ℕ Global) Global) → i < length rows → commands_at (rows_of (slice_set rows i new)) i ≡ commands_of new
set_same [] i new h = absurd (omega arith)
set_same (r ∷ rs) zero new h = refl
set_same (r ∷ rs) (suc i) new h = set_same rs i new (omega arith)

-- the others stay
pub set_other : (rows : Rows) (i : ℕ) (new : Vec (Vec ℕ Global) Global) (k : ℕ) → (k ≡ i → ⊥) → commands_at (rows_of (slice_set rows i new)) k ≡ commands_at (rows_of rows) k
set_other [] i new k n = refl
set_other (r ∷ rs) zero new zero n = absurd (n refl)
set_other (r ∷ rs) zero new (suc k) n = refl
set_other (r ∷ rs) (suc i) new zero n = refl
set_other (r ∷ rs) (suc i) new (suc k) n = set_other rs i new k (λ e. n (ap suc e))

-- a row that was read
pub row_read : (rows : Rows) (i : ℕ) (row : Vec (Vec ℕ Global) Global) → i < length rows → row ≡ get_or rows i row → commands_at (rows_of rows) i ≡ commands_of row
row_read rows i row within is = at rows i within ∙ ap commands_of (sym is)
  where
    at : (ws : Rows) (k : ℕ) → k < length ws → commands_at (rows_of ws) k ≡ commands_of (get_or ws k row)
    at [] k h = absurd (omega arith)
    at (w ∷ ws) zero h = refl
    at (w ∷ ws) (suc k) h = at ws k (omega arith)

-- one command behind the others
pub one_more : (old : List (Vec ℕ Global)) (c : Vec ℕ Global) → map (λ (v : Vec ℕ Global). v.items) (old ++ c ∷ []) ≡ map (λ (v : Vec ℕ Global). v.items) old ++ c.items ∷ []
one_more [] c = refl
one_more (v ∷ vs) c = ap (λ l. v.items ∷ l) (one_more vs c)

-- the row of its session has a command more, and the others stay
module _ (old new : List (List (List ℕ))) (a : Addressed) (small : a.session < session_count) where
  pub added : commands_at new (rank a.tenant a.session) ≡ commands_at old (rank a.tenant a.session) ++ a.command ∷ []
      → ((k : ℕ) → (k ≡ rank a.tenant a.session → ⊥) → commands_at new k ≡ commands_at old k) → AddsCommand old a new
  added own others t s within = by_tests (a.tenant == t) (a.session == s) refl refl
    where
      elsewhere : (rank t s ≡ rank a.tenant a.session → ⊥) → commands_at new (rank t s) ≡ commands_at old (rank t s) ++ []
      elsewhere n = others (rank t s) n ∙ sym (append-nil (commands_at old (rank t s)))

      by_tests : (x y : Bool) → (a.tenant == t) ≡ x → (a.session == s) ≡ y → commands_at new (rank t s) ≡ commands_at old (rank t s) ++ (if x && y then a.command ∷ [] else [])
      by_tests true true of_tenant of_session =
          let t_is : a.tenant ≡ t = eqb-true a.tenant t of_tenant in
          let s_is : a.session ≡ s = eqb-true a.session s of_session in
          let here : rank a.tenant a.session ≡ rank t s = omega arith in
          subst (λ (k : ℕ). commands_at new k ≡ commands_at old k ++ a.command ∷ []) here own
      by_tests true false of_tenant of_session = elsewhere (λ (e : rank t s ≡ rank a.tenant a.session). eqb-false a.session s of_session (omega arith))
      by_tests false y of_tenant of_session = elsewhere (λ (e : rank t s ≡ rank a.tenant a.session). eqb-false a.tenant t of_tenant (omega arith))
