use Rattle.std.proofs.Common.{◌≡◌, ◌≤◌, true, [], length}
use Rattle.crossbeam_deque.specs.Handles.{worker_view, worker_deque, worker_flavor, worker_capacity, worker_index}
use Rattle.sb_workers.specs.Rule.{known, tasks_from}
use Rattle.sb_workers.proofs.crew.fill.Given as goal

abbrev pub invariant-loop-job : goal.invariant-loop-job
invariant-loop-job g l =
    (worker_deque l.owner ≡ worker_deque l.initial.owner) × (worker_flavor l.owner ≡ worker_flavor l.initial.owner)
    × (worker_view l.owner ≡ known (worker_view l.initial.owner).parts true (tasks_from 0 l.yielded) [])
    × (l.place ≡ length l.yielded) × (worker_index l.owner ≡ length l.yielded) × (worker_capacity l.initial.owner ≤ worker_capacity l.owner)
