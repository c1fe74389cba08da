use Rattle.std.proofs.Common.{map, refl}
use Rattle.sb_syntax.specs.declared.kind.TokenKind.TheVariants.{Comma}
use Rattle.sb_syntax.specs.Reading.{assignment}
use Rattle.sb_syntax.specs.Views as view
use Rattle.sb_syntax.proofs.Lists.{list_gives}
use Rattle.sb_syntax.proofs.statement.assignments.Goals as goal

pub returns : goal.returns
returns c = list_gives view.assignment assignment Comma c.args.tokens.now (λ v. v.items) (λ v. map view.assignment v.items) (λ v. refl) c.list.new.tokens _ c.list.ensures.read c.list.ensures.all c.list.ensures.refused
