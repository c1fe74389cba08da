use Rattle.std.proofs.Common.{◌≤◌, ℕ, OnOk, subst}
use Rattle.sb_tables.specs.Held.{stored_at}
use Rattle.sb_process.proofs.Preparing.{room_for, same_rows}
use Rattle.sb_process.proofs.prepared_changes.reserve.Goals as goal

pub returns-clause-table : goal.returns-clause-table
returns-clause-table g c =
    subst (λ (n : ℕ). OnOk c.reserve-2.result (n ≤ (stored_at c.reserve-2.new.self c.args.target).room)) c.insert_count.ensures
    (room_for c.reserve-2.result c.args.target c.insert_count.result c.args.tables.now c.reserve-2.new.self c.requires.there c.reserve-2.ensures.ok)

pub returns-clause-same : goal.returns-clause-same
returns-clause-same g c = same_rows c.reserve-2.result c.args.target c.insert_count.result c.args.tables.now c.reserve-2.new.self c.requires.numbered c.reserve-2.ensures.ok c.reserve-2.ensures.err
