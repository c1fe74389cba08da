use Rattle.std.proofs.Common.{map, refl}
use Rattle.sb_syntax.specs.declared.kind.TokenKind.TheVariants.{Comma}
use Rattle.sb_syntax.specs.Reading.{expr, expressions}
use Rattle.sb_syntax.specs.Views as view
use Rattle.sb_syntax.proofs.Lists.{limited_gives}
use Rattle.sb_syntax.proofs.select.expressions.Goals as goal

pub returns : goal.returns
unfolding expressions
returns c = limited_gives view.expression expr Comma c.args.tokens.now (λ v. v.items) (λ v. map view.expression v.items) (λ v. refl) c.list.new.tokens 15 _ c.list.ensures.read c.list.ensures.all c.list.ensures.refused
