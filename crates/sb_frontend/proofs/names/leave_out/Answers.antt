use Rattle.std.proofs.Common.{rules}
use Rattle.std.proofs.lemmas.Fn.{filter_same}
use Rattle.sb_frontend.proofs.Naming.{is_other, left-out}
use Rattle.sb_frontend.proofs.names.leave_out.Goals as goal

pub returns-clause-left : goal.returns-clause-left
returns-clause-left g c =
    left-out c.args.name.now c.args.list.now.items c.retain.new.self.items (filter_same _ (is_other c.args.name.now) _ (λ x b f' k. search rules) _ _ c.retain.ensures.filtered)
