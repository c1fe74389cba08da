use Rattle.crossbeam_deque.specs.Handles.{view, stealer_deque}
use Rattle.sb_workers.specs.Results.{AreDone}
use Rattle.sb_workers.specs.Seats.{IsSeat}
use Rattle.sb_workers.proofs.turns.steal.Given as goal

abbrev pub invariant-loop : goal.invariant-loop
invariant-loop g l = IsSeat (stealer_deque l.thief) l.seat × AreDone g.W.Work.does (view l.seat).given l.done.items
