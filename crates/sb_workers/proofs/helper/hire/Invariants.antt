use Rattle.std.proofs.Common.{◌≡◌, ◌≤◌, ◌-◌, true, [], vec_len, vec_capacity}
use Rattle.crossbeam_deque.specs.Handles.{worker_view, worker_deque, worker_flavor, worker_capacity, worker_index}
use Rattle.sb_workers.specs.Rule.{known}
use Rattle.sb_workers.specs.Seats.{AreHelpers}
use Rattle.sb_workers.proofs.helper.hire.Given as goal

abbrev pub invariant-loop-hired : goal.invariant-loop-hired
invariant-loop-hired g l = record {
  view : worker_view l.owner ≡ known (1024 - l._hired) true [] [];
  deque : worker_deque l.owner ≡ worker_deque l.initial.owner;
  flavor : worker_flavor l.owner ≡ worker_flavor l.initial.owner;
  index : worker_index l.owner ≡ worker_index l.initial.owner;
  capacity : worker_capacity l.initial.owner ≤ worker_capacity l.owner;
  helpers : AreHelpers g.W.Work.does (worker_deque l.initial.owner) l.helpers.items;
  len : vec_len l.helpers ≡ l._hired;
  room : l.count ≤ vec_capacity l.helpers;
}
