-- A tenant without transactions, and what it is compared by.
use Rattle.std.proofs.Common.{◌≡◌, ℕ, ◌+◌, ◌<◌, Bool, true, false, ◌||◌, List, [], ◌∷◌, ◌++◌, drop, get_or, refl, sym, ap, ◌∙◌, subst, arith, add-one, drop-cons}
use Rattle.std.proofs.lemmas.List.FromFn.{get_or-range_with_len}
use Rattle.std.specs.Prelude.{flat_map}
use Rattle.std.specs.List.{list_any}
use Rattle.std.proofs.lemmas.Bool.{or_parts, true≢false}
use Rattle.sb_value.specs.Locks.{sessions}
use Rattle.sb_value.specs.Table.{after_all}
use Rattle.sb_priority.specs.Ranks.{Ranks}
use Rattle.sb_catalog.specs.declared.rule.Rule.{Rule}
use Rattle.sb_catalog.specs.Definitions.{AreOrdered}
use Rattle.sb_tenant.specs.Alike.{HaveSamePairs, IsAtRest}
use Rattle.sb_tenant.specs.State.{State, Session, closed, idle, active, changes_of, has_transaction, session_at, tables_seen}
use Rattle.sb_tenant.specs.Compared.{AreSettled, HaveSameBefore}
use Rattle.sb_tenant.specs.AlikeTenants.{is_busy}

-- ---- the eight sessions

abbrev pub busy_from : State → ℕ → Bool
busy_from state k = list_any (λ s. has_transaction (session_at state s)) (drop k sessions)

pub busy_next : (state : State) (k : ℕ) → k < 8 → busy_from state k ≡ (has_transaction (session_at state k) || busy_from state (k + 1))
busy_next state k h =
    ap (list_any (λ s. has_transaction (session_at state s))) split
    ∙ ap (λ n. has_transaction (session_at state n) || busy_from state (k + 1)) (get_or-range_with_len 0 8 k 0 h ∙ (let p : 0 + k ≡ k = omega arith in p))
  where
    split : drop k sessions ≡ get_or sessions k 0 ∷ drop (k + 1) sessions
    split = rw (add-one k) (drop-cons sessions k 0 h)

-- a session with a transaction is found
pub busy_at : (state : State) (k s : ℕ) → k < 8 → s ≡ k → busy_from state 0 ≡ busy_from state k → has_transaction (session_at state s) ≡ true → is_busy state ≡ true
busy_at state k s below same before has =
    before ∙ busy_next state k below ∙ ap (λ b. b || busy_from state (k + 1)) (ap (λ n. has_transaction (session_at state n)) (sym same) ∙ has)

-- a session without one is passed
pub idle_at : (state : State) (k s : ℕ) → k < 8 → s ≡ k → busy_from state 0 ≡ busy_from state k → has_transaction (session_at state s) ≡ false → is_busy state ≡ busy_from state (k + 1)
idle_at state k s below same before has =
    before ∙ busy_next state k below ∙ ap (λ b. b || busy_from state (k + 1)) (ap (λ n. has_transaction (session_at state n)) (sym same) ∙ has)

-- ---- nothing is changed that isn't committed

unchanged : (session : Session) → has_transaction session ≡ false → changes_of session ≡ []
unchanged closed h = refl
unchanged idle h = refl
unchanged (active changes marks) h = absurd (true≢false h)

no_changes : (state : State) (ss : List ℕ) → list_any (λ s. has_transaction (session_at state s)) ss ≡ false → flat_map (λ s. changes_of (session_at state s)) ss ≡ []
no_changes state [] h = refl
no_changes state (s ∷ ss) h =
    let parts = or_parts (has_transaction (session_at state s)) (list_any (λ s. has_transaction (session_at state s)) ss) h in
    λ i. unchanged (session_at state s) parts.0 i ++ no_changes state ss parts.1 i

pub seen_at_rest : (state : State) → is_busy state ≡ false → tables_seen state ≡ state.catalog.tables
seen_at_rest state h = ap (λ changes. after_all changes state.catalog.tables) (no_changes state sessions h)

pub rests : (state : State) → is_busy state ≡ false → AreSettled (tables_seen state) → IsAtRest state
rests state h settled =
    let own : AreSettled state.catalog.tables = subst AreSettled (seen_at_rest state h) settled in
    record { ended = h; apart = own.0; tables = own.1 }

-- ---- pairs

pub same_pairs : (one other : Ranks) (rules others : List Rule) (pairs more : List (ℕ × ℕ)) → AreOrdered one rules pairs → AreOrdered other others more →
    ((b : ℕ) → HaveSameBefore one.before other.before b) → HaveSamePairs pairs more
same_pairs one other rules others pairs more ordered ordered_too same a b =
    sym (ordered.order.pairs_are a b) ∙ same b a ∙ ordered_too.order.pairs_are a b
