use Rattle.std.proofs.lemmas.List.{map-id}
use Rattle.sb_syntax.specs.declared.kind.TokenKind.TheVariants.{Comma}
use Rattle.sb_syntax.specs.Reading.{name, names}
use Rattle.sb_syntax.proofs.Lists.{list_gives}
use Rattle.sb_syntax.proofs.literal.names.Goals as goal

pub returns : goal.returns
unfolding names
returns c = list_gives (λ n. n) name Comma c.args.tokens.now (λ v. v.items) (λ v. v.items) (λ v. map-id v.items) c.list.new.tokens _ c.list.ensures.read c.list.ensures.all c.list.ensures.refused
