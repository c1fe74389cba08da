use Rattle.std.proofs.Common.{◌≡◌, ◌++◌, take}
use Rattle.sb_status.specs.TenantPages.{counted}
use Rattle.sb_status.proofs.page.Page.counts.Given as goal

-- the pieces of those so far
abbrev pub invariant-loop-mark : goal.invariant-loop-mark
invariant-loop-mark l = l.self.pieces.items ≡ l.initial.self.pieces.items ++ counted (take l.mark-index l.counts)
