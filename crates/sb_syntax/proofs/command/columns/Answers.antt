use Rattle.std.proofs.lemmas.List.{map-id}
use Rattle.sb_syntax.specs.declared.kind.TokenKind.TheVariants.{Comma}
use Rattle.sb_syntax.specs.Reading.{definition, columns}
use Rattle.sb_syntax.proofs.Lists.{limited_gives}
use Rattle.sb_syntax.proofs.command.columns.Goals as goal

pub returns : goal.returns
unfolding columns
returns c = limited_gives (λ c. c) definition Comma c.args.tokens.now (λ v. v.items) (λ v. v.items) (λ v. map-id v.items) c.list.new.tokens 7 _ c.list.ensures.read c.list.ensures.all c.list.ensures.refused
