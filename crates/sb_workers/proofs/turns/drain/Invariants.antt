use Rattle.std.proofs.Common.{◌≤◌, length, vec_capacity}
use Rattle.crossbeam_deque.specs.Handles.{worker_view}
use Rattle.sb_workers.specs.Results.{AreDone}
use Rattle.sb_workers.specs.Seats.{IsOwner, SameOwner}
use Rattle.sb_workers.proofs.turns.drain.Given as goal

abbrev pub invariant-loop : goal.invariant-loop
invariant-loop g l = record {
  same : SameOwner l.initial.owner l.owner;
  owner : IsOwner l.initial.owner;
  done : AreDone g.W.Work.does (worker_view l.owner).given l.done.items;
  room : length (worker_view l.initial.owner).pushed ≤ vec_capacity l.done;
}
