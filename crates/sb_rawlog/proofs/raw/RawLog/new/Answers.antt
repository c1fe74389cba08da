use Rattle.std.proofs.Common.{refl, Some, None}
use Rattle.sb_rawlog.proofs.Empty.{empty}
use Rattle.sb_rawlog.proofs.raw.RawLog.new.Goals as goal

pub invariant_of-result : goal.invariant_of-result
invariant_of-result c = empty c.args.buckets c.tuple_buckets.result c.requires.0 c.tuple_buckets.ensures _ refl refl refl c.new.ensures (c.in_ok-from_elem.ensures.items_if_clones_equal (elim [ None ↦ λ e. refl | Some k ↦ λ e. absurd e ])) (c.in_ok-from_elem-2.ensures.items_if_clones_equal (elim [ None ↦ λ e. refl | Some k ↦ λ e. absurd e ])) (c.in_ok-from_elem-3.ensures.items_if_clones_equal (elim [ None ↦ λ e. refl | Some k ↦ λ e. absurd e ]))
    c.new-2.ensures.items
