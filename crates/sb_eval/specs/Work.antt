-- Promise: the work of a statement, but for that of its changes: what is evaluated for each row of its table, and once in all.
use Rattle.std.specs.Prelude.{ℕ, ◌+◌, ◌*◌, List, map, sum, length}
use Rattle.sb_value.specs.Table.{table_at}
use Rattle.sb_check.specs.declared.tree.Assignment.{Assignment}
use Rattle.sb_check.specs.declared.tree.Statement.{Statement}
use Rattle.sb_check.specs.declared.tree.Statement.TheVariants.{InsertRows, InsertQuery, Delete, Update}
use Rattle.sb_plan.specs.Seen.{Seen, row_count}
pub use Rattle.sb_plan.specs.Work.{query_work}
use Rattle.sb_plan.specs.Work.{repeated_work, repeated_operand_work, single_work, single_operand_work}

-- of the operands of assignments, for each row
abbrev pub repeated_assignments_work : Seen → List Assignment → ℕ
repeated_assignments_work seen assignments = sum (map (λ a. repeated_operand_work (row_count seen) a.operand) assignments)

-- and once
abbrev pub single_assignments_work : Seen → List Assignment → ℕ
single_assignments_work seen assignments = sum (map (λ a. single_operand_work (row_count seen) a.operand) assignments)

-- so much for each row of the table, and so much once
abbrev pub target_work : Seen → ℕ → ℕ → ℕ → ℕ
target_work seen t repeated single = length (table_at seen.tables t).rows * repeated + single

-- rows that are written in the text are the work of their changes alone
abbrev pub statement_work : Seen → Statement → ℕ
statement_work seen (InsertRows t rows) = 0
statement_work seen (InsertQuery t q) = query_work (row_count seen) q
statement_work seen (Delete t c) = target_work seen t (repeated_work (row_count seen) c) (single_work (row_count seen) c)
statement_work seen (Update t assignments c) =
    target_work seen t (repeated_assignments_work seen assignments + repeated_work (row_count seen) c)
    (single_assignments_work seen assignments + single_work (row_count seen) c)
