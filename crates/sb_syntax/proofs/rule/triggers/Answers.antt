use Rattle.std.proofs.Common.{map, refl}
use Rattle.sb_syntax.specs.declared.kind.TokenKind.TheVariants.{Comma}
use Rattle.sb_syntax.specs.Reading.{trigger}
use Rattle.sb_syntax.specs.Views as view
use Rattle.sb_syntax.proofs.Lists.{list_gives}
use Rattle.sb_syntax.proofs.rule.triggers.Goals as goal

pub returns : goal.returns
returns c = list_gives view.trigger trigger Comma c.args.tokens.now (λ v. v.items) (λ v. map view.trigger v.items) (λ v. refl) c.list.new.tokens _ c.list.ensures.read c.list.ensures.all c.list.ensures.refused
