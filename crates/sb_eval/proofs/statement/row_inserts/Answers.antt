-- the table has room for the rows, or has none
use Rattle.std.proofs.Common.{◌≡◌, ◌∙◌, ℕ, ◌+◌, true, false, nat_lt, ap, sym, length, List, Vec, Global}
use Rattle.sb_value.specs.declared.change.Change.{Change}
use Rattle.sb_value.specs.Table.{table_at}
use Rattle.sb_eval.proofs.Results.{same_answers}
use Rattle.sb_eval.proofs.Rooms.{past_room, within_room}
use Rattle.sb_eval.proofs.statement.row_inserts.Goals as goal

pub returns-then-is_past_room : goal.returns-then-is_past_room
returns-then-is_past_room g c =
    let seen = g.S.Sources.seen c.args.sources.now in
    let before : ℕ = length (table_at seen.tables c.args.table).rows in
    let past : nat_lt 4096 (before + length c.args.rows.now) ≡ true = ap (λ n. nat_lt 4096 (before + n)) (sym c.len.ensures) ∙ sym c.is_past_room.ensures ∙ c.if-is_past_room.true in
    past_room seen c.args.table _ c.args.rows.now past

pub returns : goal.returns
returns g c =
    let seen = g.S.Sources.seen c.args.sources.now in
    let before : ℕ = length (table_at seen.tables c.args.table).rows in
    let within : nat_lt 4096 (before + length c.args.rows.now) ≡ false = ap (λ n. nat_lt 4096 (before + n)) (sym c.len.ensures) ∙ sym c.is_past_room.ensures ∙ c.if-is_past_room.false in
    same_answers {X = Vec Change Global} {A = List Change} (λ changes. changes.items) _ _ _
    (within_room seen c.args.table _ c.args.rows.now within) (c.answer_of.ensures _ c.tuple_inserts.ensures)
