use Rattle.std.proofs.Common.{◌≡◌, ◌∙◌, sym, ap, true, false, arith}
use Rattle.std.specs.Prelude.{Err}
use Rattle.sb_syntax.specs.Views.{assignment, operand}
use Rattle.sb_check.specs.Names.{same_type}
use Rattle.sb_check.specs.Parts.{operand_walk}
use Rattle.sb_check.specs.Walked.{operand_typed}
use Rattle.sb_check.proofs.StatementWalk.{no_column, was_assigned, operand_fails, wrong_type, one_more, assignments_end}
use Rattle.sb_check.proofs.Results.{same_gives}
use Rattle.sb_check.proofs.statement.each_assignment.Goals as goal

pub returns-in_default : goal.returns-in_default
returns-in_default g c =
    no_column (g.S.Schema.names c.args.schema.now) c.args.table.now.name c.args.table.now.columns.now _ assignment c.args.list.now c.loop-assignment.assignment-index c.assignment-item.result c.loop-assignment.done (omega arith) c.assignment-item.is c.loop-assignment.invariant
    (sym c.in_default.ensures)

pub returns-then-is_assigned : goal.returns-then-is_assigned
returns-then-is_assigned g c =
    was_assigned (g.S.Schema.names c.args.schema.now) c.args.table.now.name c.args.table.now.columns.now _ assignment c.args.list.now c.loop-assignment.assignment-index c.assignment-item.result c.loop-assignment.done (omega arith) c.assignment-item.is c.loop-assignment.invariant
    (c.in-Some.place, c.in-Some.of) (sym c.in-Some.ensures) (sym (rw c.as_slice.ensures at c.if-is_assigned.ensures))

pub returns-in-Err : goal.returns-in-Err
returns-in-Err g c =
    operand_fails (g.S.Schema.names c.args.schema.now) c.args.table.now.name c.args.table.now.columns.now _ assignment c.args.list.now c.loop-assignment.assignment-index c.assignment-item.result c.loop-assignment.done (omega arith) c.assignment-item.is c.loop-assignment.invariant
    (c.in-Some.place, c.in-Some.of) (sym c.in-Some.ensures) (sym (rw c.as_slice.ensures at c.if-is_assigned.ensures)) operand_typed _ (same_gives operand_typed _ _ (Err c.in-Err.fault) (ap (operand_walk (g.S.Schema.names c.args.schema.now) (operand c.assignment-item.result.operand)) (sym c.requires)) c.in-Err.ensures)

pub returns-then-not-same_type : goal.returns-then-not-same_type
returns-then-not-same_type g c =
    let ty : same_type c.in-Ok.value.of c.in-Some.of ≡ false = grind arith in
    wrong_type (g.S.Schema.names c.args.schema.now) c.args.table.now.name c.args.table.now.columns.now _ assignment c.args.list.now c.loop-assignment.assignment-index c.assignment-item.result c.loop-assignment.done (omega arith) c.assignment-item.is c.loop-assignment.invariant
    (c.in-Some.place, c.in-Some.of) (sym c.in-Some.ensures) (sym (rw c.as_slice.ensures at c.if-is_assigned.ensures)) (operand_typed c.in-Ok.value) (ap (operand_walk (g.S.Schema.names c.args.schema.now) (operand c.assignment-item.result.operand)) (sym c.requires) ∙ c.in-Ok.ensures) ty

pub loop-assignment-preserved : goal.loop-assignment-preserved
loop-assignment-preserved g c =
    let ty : same_type c.in-Ok.value.of c.in-Some.of ≡ true = grind arith in
    let same = c.in_ok-at.ensures in
    let at : c.in_ok-at.at ≡ c.in-Some.place = cc same in
    rw (c.in_ok-push.ensures.ok, at)
    (one_more (g.S.Schema.names c.args.schema.now) c.args.table.now.name c.args.table.now.columns.now _ assignment c.args.list.now c.loop-assignment.assignment-index c.assignment-item.result c.loop-assignment.done (omega arith) c.assignment-item.is c.loop-assignment.invariant
    (c.in-Some.place, c.in-Some.of) (sym c.in-Some.ensures) (sym (rw c.as_slice.ensures at c.if-is_assigned.ensures)) (operand_typed c.in-Ok.value) (ap (operand_walk (g.S.Schema.names c.args.schema.now) (operand c.assignment-item.result.operand)) (sym c.requires) ∙ c.in-Ok.ensures) ty)

pub returns : goal.returns
returns g c = c.loop-assignment.invariant ∙ assignments_end (g.S.Schema.names c.args.schema.now) c.args.table.now.name c.args.table.now.columns.now assignment c.args.list.now c.loop-assignment.assignment-index c.loop-assignment.done (omega arith)
