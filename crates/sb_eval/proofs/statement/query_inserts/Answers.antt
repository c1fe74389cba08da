-- the table has room for all rows, or has none for the first of them
use Rattle.std.proofs.Common.{◌≡◌, ◌∙◌, ℕ, ◌+◌, true, false, nat_lt, ap, sym, length, List, Vec, Global}
use Rattle.sb_value.specs.declared.change.Change.{Change}
use Rattle.sb_value.specs.Table.{table_at}
use Rattle.sb_eval.proofs.Results.{same_answers}
use Rattle.sb_eval.proofs.Rooms.{too_many, room_enough}
use Rattle.sb_eval.proofs.statement.query_inserts.Goals as goal

pub returns-then-is_past_room : goal.returns-then-is_past_room
returns-then-is_past_room g c =
    let seen = g.S.Sources.seen c.args.sources.now in
    let before : ℕ = length (table_at seen.tables c.args.table).rows in
    let past : nat_lt 4096 (before + length c.in-Ok.rows) ≡ true = ap (λ n. nat_lt 4096 (before + n)) (sym c.len.ensures) ∙ sym c.is_past_room.ensures ∙ c.if-is_past_room.true in
    too_many seen c.args.table _ _ c.in-Ok.rows c.in-Ok.ensures past

pub returns-in-Ok : goal.returns-in-Ok
returns-in-Ok g c =
    let seen = g.S.Sources.seen c.args.sources.now in
    let before : ℕ = length (table_at seen.tables c.args.table).rows in
    let within : nat_lt 4096 (before + length c.in-Ok.rows) ≡ false = ap (λ n. nat_lt 4096 (before + n)) (sym c.len.ensures) ∙ sym c.is_past_room.ensures ∙ c.if-is_past_room.false in
    same_answers {X = Vec Change Global} {A = List Change} (λ changes. changes.items) _ _ _
    (room_enough seen c.args.table _ _ c.in-Ok.rows c.in-Ok.ensures within) (c.answer_of.ensures _ c.inserts.ensures)
