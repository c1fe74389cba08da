use Rattle.std.proofs.Common.{rules}
use Rattle.sb_frontend.proofs.Conversing.{negotiated-none}
use Rattle.sb_frontend.proofs.conversation.say_version.Goals as goal

pub returns-then-is_empty : goal.returns-then-is_empty
returns-then-is_empty c = negotiated-none c.args.minor c.args.options.now c.args.out.now (search rules) (search rules)
