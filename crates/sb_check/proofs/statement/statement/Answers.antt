use Rattle.std.proofs.Common.{map}
use Rattle.std.specs.Prelude.{option_map}
use Rattle.sb_syntax.specs.Views.{assignment, filter, query}
use Rattle.sb_check.specs.declared.tree.Statement.{Statement}
use Rattle.sb_check.proofs.StatementWalk.{walk_rows, walk_rows_of, walk_delete, walk_update}
use Rattle.sb_check.proofs.Results.{same_gives}
use Rattle.sb_check.proofs.statement.statement.Goals as goal

pub returns-in-Ok : goal.returns-in-Ok
returns-in-Ok g c =
    let same = walk_rows (g.S.Schema.names c.args.schema.now) c.in-Ok.table c.in-InsertRows.name c.in-Ok.ensures c.in-InsertRows.rows in
    rw c.in-InsertRows.is (same_gives {X = Statement} (λ s. s) _ _ _ same c.insert_rows.ensures)

pub returns-in-Ok-table_named : goal.returns-in-Ok-table_named
returns-in-Ok-table_named g c =
    let same = walk_rows_of (g.S.Schema.names c.args.schema.now) c.in-Ok-table_named.table c.in-InsertQuery.name c.in-Ok-table_named.ensures (query c.in-InsertQuery.q.value) in
    rw c.in-InsertQuery.is (same_gives {X = Statement} (λ s. s) _ _ _ same (rw c.deref.ensures at c.insert_query.ensures))

pub returns-in-Ok-table_named-2 : goal.returns-in-Ok-table_named-2
returns-in-Ok-table_named-2 g c =
    let same = walk_delete (g.S.Schema.names c.args.schema.now) c.in-Ok-table_named-2.table c.in-Delete.name c.in-Ok-table_named-2.ensures (filter (option_map (λ a. a.value) c.in-Delete.f)) in
    rw c.in-Delete.is (same_gives {X = Statement} (λ s. s) _ _ _ same c.delete.ensures)

pub returns-in-Ok-table_named-3 : goal.returns-in-Ok-table_named-3
returns-in-Ok-table_named-3 g c =
    let same = walk_update (g.S.Schema.names c.args.schema.now) c.in-Ok-table_named-3.table c.in-Update.name c.in-Ok-table_named-3.ensures (map assignment c.in-Update.list.items) (filter (option_map (λ a. a.value) c.in-Update.f)) in
    rw c.in-Update.is (same_gives {X = Statement} (λ s. s) _ _ _ same (rw c.as_slice.ensures.value at c.update.ensures))
