use Rattle.std.proofs.Common.{◌≡◌, ◌+◌, vec_len}
use Rattle.crossbeam_deque.specs.Handles.{worker_view, worker_deque, worker_flavor}
use Rattle.sb_workers.specs.Seats.{AreHelpers, IsCaller}
use Rattle.sb_workers.proofs.helper.take_in.Given as goal

abbrev pub decreases-loop-helper : goal.decreases-loop-helper
decreases-loop-helper g l = vec_len l.helpers

abbrev pub invariant-loop-helper : goal.invariant-loop-helper
invariant-loop-helper g l =
    let old = l.initial.caller.owner in
    let now = l.caller.owner in
    (worker_deque now ≡ worker_deque old) × (worker_flavor now ≡ worker_flavor old)
    × ((worker_view now).parts + vec_len l.helpers ≡ (worker_view old).parts + vec_len l.initial.helpers)
    × ((worker_view now).owns ≡ (worker_view old).owns) × ((worker_view now).pushed ≡ (worker_view old).pushed)
    × IsCaller g.W.Work.does l.caller × AreHelpers g.W.Work.does (worker_deque old) l.helpers.items
