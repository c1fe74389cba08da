-- the first newline ends the first line
use Rattle.std.proofs.Common.{◌∙◌}
use Rattle.sb_rows.proofs.Newlines.{first_newline, some_newline, line_split}
use Rattle.sb_rows.proofs.lines.split_line.Goals as goal

pub returns-in-Some-clause-line : goal.returns-in-Some-clause-line
returns-in-Some-clause-line c = λ line rest begins.
    c.split_at.ensures.front ∙ (line_split line rest _ _ begins.1 (first_newline line rest _ _ begins.0 begins.1 c.in-Some.ensures)).0

pub returns-in-Some-clause-rest : goal.returns-in-Some-clause-rest
returns-in-Some-clause-rest c = λ line rest begins.
    c.split_at.ensures.back ∙ (line_split line rest _ _ begins.1 (first_newline line rest _ _ begins.0 begins.1 c.in-Some.ensures)).1

pub returns-in-None-clause-line : goal.returns-in-None-clause-line
returns-in-None-clause-line c = λ line rest begins. absurd (some_newline line rest _ begins.1 c.in-None.ensures)

pub returns-in-None-clause-rest : goal.returns-in-None-clause-rest
returns-in-None-clause-rest c = λ line rest begins. absurd (some_newline line rest _ begins.1 c.in-None.ensures)
