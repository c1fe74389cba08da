-- Promise: laws of alike tenants, as statements.
use Rattle.std.specs.Prelude.{◌≡◌, ◌≤◌, ℕ, ◌+◌, List, length, map, All, IsTrue}
use Rattle.sb_tenant.specs.declared.bound.Bound.{Bound}
use Rattle.sb_tenant.specs.declared.reply.Entry.{Entry}
use Rattle.sb_tenant.specs.Alike.{AreAlikeWithSessions}
use Rattle.sb_tenant.specs.Limits.{is_session, trail_limit}
use Rattle.sb_tenant.specs.State.{State, opening}
use Rattle.sb_tenant.specs.Trail.{IsLegal, answers, state_after}
use Rattle.sb_tenant.specs.AlikeTenants.{AreAlike}

module _ (first second : ℕ) (bound : Bound) where
  -- the same replies to the same lines, as long as neither trail is full, and alike states after them
  abbrev pub AlikeAnswerAlike : Type 0
  AlikeAnswerAlike =
      (one other : State) (lines : List (ℕ × List ℕ)) → AreAlike first second one other →
      All (λ e. IsTrue (is_session e.0)) lines →
      one.steps + length lines ≤ trail_limit → other.steps + length lines ≤ trail_limit →
      (map (λ a. a.reply) (answers first bound one lines) ≡ map (λ a. a.reply) (answers second bound other lines))
      × AreAlike first second (state_after first bound one lines) (state_after second bound other lines)

  -- states at rest, to which legal trails lead, and which show the same, are alike
  abbrev pub AlikeAtRestAreAlike : Type 0
  AlikeAtRestAreAlike =
      (one other : State) (trail again : List Entry) →
      IsLegal first bound opening trail one → IsLegal second bound opening again other →
      AreAlikeWithSessions one other → AreAlike first second one other
