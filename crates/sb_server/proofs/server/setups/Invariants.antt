use Rattle.std.proofs.Common.{◌≡◌, vec_len}
use Rattle.sb_server.specs.Mailboxes.{ArePlaced}
use Rattle.sb_server.proofs.server.setups.Given as goal

-- as many as there are posts so far
abbrev pub invariant-loop-number : goal.invariant-loop-number
invariant-loop-number g l = (vec_len l.mailboxes ≡ l.number) × ArePlaced l.mailboxes.items × (vec_len l.setups ≡ l.number)
