use Rattle.std.proofs.Common.{◌∙◌, List, subst, sym}
use Rattle.sb_tables.specs.Held.{Held}
use Rattle.sb_tables.specs.Stored.{Stored}
use Rattle.sb_rawlog.specs.Sessions.{changes_by}
use Rattle.sb_process.specs.Made.{AreMade}
use Rattle.sb_process.proofs.Undoing.{undo_there, undo_newest, undo_kept, undone}
use Rattle.sb_process.proofs.undo.undo_all.Goals as goal

pub undo-requires-clause-there : goal.undo-requires-clause-there
undo-requires-clause-there g c =
    let some = c.loop-change.invariant.some in
    undo_there c.changes_keep_places.ensures some.0 (changes_by c.args.who.now (g.L.ChangeLog.records c.take_newest.new.self)) c.in-Some.change c.loop-change.tables
    (subst (λ cs. AreMade some.0 cs c.loop-change.tables) c.in-Some.ensures.own some.1)

pub undo-requires-clause-newest : goal.undo-requires-clause-newest
undo-requires-clause-newest g c =
    let some = c.loop-change.invariant.some in
    undo_newest c.changes_keep_places.ensures some.0 (changes_by c.args.who.now (g.L.ChangeLog.records c.take_newest.new.self)) c.in-Some.change c.loop-change.tables
    (subst (λ cs. AreMade some.0 cs c.loop-change.tables) c.in-Some.ensures.own some.1)

pub undo-requires-clause-kept : goal.undo-requires-clause-kept
undo-requires-clause-kept g c =
    let some = c.loop-change.invariant.some in
    undo_kept c.changes_keep_places.ensures some.0 (changes_by c.args.who.now (g.L.ChangeLog.records c.take_newest.new.self)) c.in-Some.change c.loop-change.tables
    (subst (λ cs. AreMade some.0 cs c.loop-change.tables) c.in-Some.ensures.own some.1)

pub loop-change-preserved : goal.loop-change-preserved
loop-change-preserved g c =
    let left = changes_by c.args.who.now (g.L.ChangeLog.records c.take_newest.new.self) in
    let before : Stored = c.undo.ensures.0 in
    let less = λ (origin : List Held) (m : AreMade origin (changes_by c.args.who.now (g.L.ChangeLog.records c.loop-change.log)) c.loop-change.tables).
    subst (λ ts. AreMade origin left ts) (sym c.undo.ensures.2)
    (undone c.changes_keep_places.ensures origin left c.in-Some.change c.loop-change.tables (subst (λ cs. AreMade origin cs c.loop-change.tables) c.in-Some.ensures.own m) before c.undo.ensures.1) in
    record {
      some = (c.loop-change.invariant.some.0, less c.loop-change.invariant.some.0 c.loop-change.invariant.some.1);
      all = λ origin m. less origin (c.loop-change.invariant.all origin m);
      others = λ other differs. c.in-Some.ensures.others other differs ∙ c.loop-change.invariant.others other differs;
      clock = c.take_newest.ensures.clock ∙ c.loop-change.invariant.clock;
    }
