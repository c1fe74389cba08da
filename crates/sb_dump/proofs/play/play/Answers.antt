use Rattle.std.proofs.Common.{ℕ, ◌+◌, ◌∷◌, ◌++◌, [], codes, ◌∙◌, subst}
use Rattle.sb_cell.specs.Tenants.{IsNew}
use Rattle.sb_dump.proofs.Playing.{new_opens, sent_both, whole_sent}
use Rattle.sb_dump.proofs.play.play.Goals as goal

-- the session is opened, the lines are sent, and it is ended
pub returns-clause-played : goal.returns-clause-played
returns-clause-played c =
    let id = c.args.id in
    let lines = c.args.lines.now in
    let fresh = c.in-Ok.cell in
    let ended = c.send-2.new.cell in
    let is_new = subst (λ (n : ℕ). IsNew n 256 (n + 1) c.args.bound fresh) (c.from-number.ensures ∙ c.number.ensures.value) c.in-Ok.ensures in
    let rest = sent_both c.send.new.cell c.send_all.new.cell ended id lines (codes "end" ∷ []) c.in_ok-send_all.ensures.sent c.in_ok-send-2.ensures in
    let whole = sent_both fresh c.send.new.cell ended id (codes "open" ∷ []) (lines ++ codes "end" ∷ []) c.in_ok-send.ensures rest in
    whole_sent fresh ended id c.args.bound lines (new_opens id c.args.bound fresh is_new) is_new.at_most whole
