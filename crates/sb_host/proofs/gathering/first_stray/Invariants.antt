use Rattle.std.proofs.Common.{take}
use Rattle.sb_host.specs.Comparing.{IsFirstStray}
use Rattle.sb_host.proofs.gathering.first_stray.Given as goal

-- the first of the stubs so far
abbrev pub invariant-loop-stub : goal.invariant-loop-stub
invariant-loop-stub l = IsFirstStray l.tenants (take l.stub-index l.stubs) l.first
