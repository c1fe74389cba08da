use Rattle.std.proofs.Common.{◌≡◌, ℕ, ◌<◌, false, not, ◌&&◌, nat_eq}
use Rattle.sb_tenant.specs.Defining.{is_under_way}
use Rattle.sb_tenant.specs.Represents.{phase_at}
use Rattle.sb_tenant.proofs.phase.Phases.is_another_under_way.Given as goal

-- no session so far is another one with a transaction
abbrev pub invariant-loop-other : goal.invariant-loop-other
invariant-loop-other l = (o : ℕ) → o < l.other → (not (nat_eq o l.session) && is_under_way (phase_at l.self-inside.list o)) ≡ false
