use Rattle.std.proofs.Common.{map, refl}
use Rattle.sb_syntax.specs.declared.kind.TokenKind.TheVariants.{Semicolon}
use Rattle.sb_syntax.specs.Reading.{action, actions}
use Rattle.sb_syntax.specs.Views as view
use Rattle.sb_syntax.proofs.Lists.{limited_gives}
use Rattle.sb_syntax.proofs.rule.actions.Goals as goal

pub returns : goal.returns
unfolding actions
returns c = limited_gives view.action action Semicolon c.args.tokens.now (λ v. v.items) (λ v. map view.action v.items) (λ v. refl) c.list.new.tokens 7 _ c.list.ensures.read c.list.ensures.all c.list.ensures.refused
