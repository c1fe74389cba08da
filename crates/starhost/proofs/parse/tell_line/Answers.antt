use Rattle.std.proofs.Common.{rules, codes, subst}
use Rattle.sb_syntax.specs.Text.{NoCommand}
use Rattle.sb_syntax.specs.Views as view
use Rattle.starhost.proofs.Commands.{tells_ok, tells_some, tells_syntax}
use Rattle.starhost.proofs.parse.tell_line.Goals as goal

pub returns-in-Ok : goal.returns-in-Ok
returns-in-Ok c =
    (codes "ok\n", tells_ok c.args.line.now (view.command c.in-Ok._command) c.requires c.in-Ok.ensures.computed, search rules, search rules)

-- without memory for the command, or for the text, nothing is written
pub returns-in-Err-NoMemory : goal.returns-in-Err-NoMemory
returns-in-Err-NoMemory c = let some = tells_some c.args.line.now in (some.0, some.1, search rules, search rules)

pub returns-in_default : goal.returns-in_default
returns-in_default c = let some = tells_some c.args.line.now in (some.0, some.1, search rules, search rules)

pub returns-in-Ok-place_text : goal.returns-in-Ok-place_text
returns-in-Ok-place_text c =
    let none = subst (NoCommand c.args.line.now) c.in-Err-Syntax.field-0-is c.in-Err-Syntax.ensures.none in
    (_, tells_syntax c.args.line.now c.in-Err-Syntax.place c.requires none.0 none.2, search rules, search rules)
