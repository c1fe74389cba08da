use Rattle.std.proofs.Common.{rules, subst, sym, List}
use Rattle.sb_server.specs.Mailboxes.{ArePlaced}
use Rattle.sb_server.specs.declared.mailbox.Mailbox.{Mailbox}
use Rattle.sb_server.proofs.Placing.{placed_more}
use Rattle.sb_server.proofs.server.setups.Goals as goal

-- one mailbox more, at its place
pub loop-number-preserved : goal.loop-number-preserved
loop-number-preserved g c = (
  search rules,
  subst (λ (l : List Mailbox). ArePlaced l) (sym (search rules)) (placed_more c.loop-number.mailboxes.items c.new.result c.loop-number.invariant.1 (search rules)),
  search rules,
)
