use Rattle.std.proofs.Common.{refl}
use Rattle.sb_tenant.proofs.RulesetCommands.{members_by}
use Rattle.sb_tenant.proofs.store.Store.change_members.Goals as goal

pub returns : goal.returns
returns c =
    λ index. members_by c.args.self.now (record c.args.self.now { definitions = c.change_members.new.self }) index c.args.name.now c.args.rules.now c.args.change
    c.requires c.change_members.result c.change_members.ensures refl
