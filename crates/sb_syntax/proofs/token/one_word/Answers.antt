use Rattle.std.proofs.Common.{◌∙◌, ap, arith}
use Rattle.sb_syntax.specs.Text.{command_of}
use Rattle.sb_syntax.proofs.SameBytes.{begin_by_bytes, commit_by_bytes}
use Rattle.sb_syntax.proofs.Worked.{begin_is, commit_is}
use Rattle.sb_syntax.proofs.token.one_word.Goals as goal

pub returns-in-98 : goal.returns-in-98
returns-in-98 c =
    ap command_of (begin_by_bytes c.args.text.now (omega arith) (omega arith) (omega arith) (omega arith) (omega arith) (omega arith)) ∙ begin_is

pub returns-in-99 : goal.returns-in-99
returns-in-99 c =
    ap command_of (commit_by_bytes c.args.text.now (omega arith) (omega arith) (omega arith) (omega arith) (omega arith) (omega arith) (omega arith)) ∙ commit_is
