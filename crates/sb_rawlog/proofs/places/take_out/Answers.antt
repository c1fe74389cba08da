use Rattle.std.proofs.Common.{◌≡◌, length, vec_len, set, arith, sym, ap, ◌∙◌}
use Rattle.sb_rawlog.specs.declared.node.Which.TheVariants.{Op, Tuple, Session}
use Rattle.sb_rawlog.proofs.Chains.{node_within}
use Rattle.sb_rawlog.proofs.Orders.{falls_node}
use Rattle.sb_rawlog.specs.Buckets.{bucket}
use Rattle.sb_rawlog.proofs.Takes.{read_head, asks1, asks2, asks3, still, takes_out}
use Rattle.sb_rawlog.proofs.places.take_out.Goals as goal

pub get-requires : goal.get-requires
get-requires c = let r = c.requires in node_within c.args.arena.now c.args.place (falls_node c.args.arena.now r.1.0 r.0 c.args.place r.1.1.0.log.falls r.1.1.1)

pub unreachable-requires : goal.unreachable-requires
unreachable-requires c = let r = c.requires in
    let n = falls_node c.args.arena.now r.1.0 r.0 c.args.place r.1.1.0.log.falls r.1.1.1 in let a = n.1 in let b = c.in_default.ensures in let d = c.get.ensures in let e = c.in_default.is in cc

pub unlink-requires : goal.unlink-requires
unlink-requires c =
    let r = c.requires in let was = c.args.arena.now in let ops = c.args.heads.now.ops.items in let tuples = c.args.heads.now.tuples.items in let sessions = c.args.heads.now.sessions.items in let p = c.args.place in let n = c.in-Some.node.now in
    let long : vec_len c.args.heads.now.ops ≡ length ops = omega arith in let long_too : vec_len c.args.heads.now.tuples ≡ length tuples = omega arith in
    let io : c.op_bucket-op.result ≡ bucket (length ops) (length tuples) Op n.item = c.op_bucket-op.ensures ∙ ap (λ k. bucket k k Op n.item) (c.len.ensures ∙ long) in
    let e1 = read_head ops c.op_bucket-op.result (bucket (length ops) (length tuples) Op n.item) c.index.result.now c.index.ensures io (r.1.1.0.log.buckets Op n.item) in
    asks1 was ops tuples sessions r.0 r.1.0 p r.1.1.0 r.1.1.1 n (sym c.in-Some.ensures) c.index.result.now e1

pub unlink-requires-2 : goal.unlink-requires-2
unlink-requires-2 c =
    let r = c.requires in let was = c.args.arena.now in let ops = c.args.heads.now.ops.items in let tuples = c.args.heads.now.tuples.items in let sessions = c.args.heads.now.sessions.items in let p = c.args.place in let n = c.in-Some.node.now in
    let long : vec_len c.args.heads.now.ops ≡ length ops = omega arith in let long_too : vec_len c.args.heads.now.tuples ≡ length tuples = omega arith in
    let io : c.op_bucket-op.result ≡ bucket (length ops) (length tuples) Op n.item = c.op_bucket-op.ensures ∙ ap (λ k. bucket k k Op n.item) (c.len.ensures ∙ long) in
    let e1 = read_head ops c.op_bucket-op.result (bucket (length ops) (length tuples) Op n.item) c.index.result.now c.index.ensures io (r.1.1.0.log.buckets Op n.item) in
    let it : c.tuple_bucket-tuple.result ≡ bucket (length ops) (length tuples) Tuple n.item = c.tuple_bucket-tuple.ensures ∙ ap (λ k. bucket k k Tuple n.item) (c.len-2.ensures ∙ long_too) in
    let e2 = read_head tuples c.tuple_bucket-tuple.result (bucket (length ops) (length tuples) Tuple n.item) c.index-2.result.now c.index-2.ensures it (r.1.1.0.log.buckets Tuple n.item) in
    asks2 was ops tuples sessions r.0 r.1.0 p r.1.1.0 r.1.1.1 n (sym c.in-Some.ensures) c.index.result.now e1 c.unlink.new.arena c.unlink.result c.unlink.ensures (set ops c.op_bucket-op.result c.unlink.result) (ap (λ k. set ops k c.unlink.result) io) c.index-2.result.now e2

pub unlink-requires-3 : goal.unlink-requires-3
unlink-requires-3 c =
    let r = c.requires in let was = c.args.arena.now in let ops = c.args.heads.now.ops.items in let tuples = c.args.heads.now.tuples.items in let sessions = c.args.heads.now.sessions.items in let p = c.args.place in let n = c.in-Some.node.now in
    let long : vec_len c.args.heads.now.ops ≡ length ops = omega arith in let long_too : vec_len c.args.heads.now.tuples ≡ length tuples = omega arith in
    let io : c.op_bucket-op.result ≡ bucket (length ops) (length tuples) Op n.item = c.op_bucket-op.ensures ∙ ap (λ k. bucket k k Op n.item) (c.len.ensures ∙ long) in
    let e1 = read_head ops c.op_bucket-op.result (bucket (length ops) (length tuples) Op n.item) c.index.result.now c.index.ensures io (r.1.1.0.log.buckets Op n.item) in
    let it : c.tuple_bucket-tuple.result ≡ bucket (length ops) (length tuples) Tuple n.item = c.tuple_bucket-tuple.ensures ∙ ap (λ k. bucket k k Tuple n.item) (c.len-2.ensures ∙ long_too) in
    let e2 = read_head tuples c.tuple_bucket-tuple.result (bucket (length ops) (length tuples) Tuple n.item) c.index-2.result.now c.index-2.ensures it (r.1.1.0.log.buckets Tuple n.item) in
    let is : c.session_bucket-session.result ≡ bucket (length ops) (length tuples) Session n.item = c.session_bucket-session.ensures.value in
    let e3 = read_head sessions c.session_bucket-session.result (bucket (length ops) (length tuples) Session n.item) c.index-3.result.now c.index-3.ensures is (r.1.1.0.log.buckets Session n.item) in
    asks3 was ops tuples sessions r.0 r.1.0 p r.1.1.0 r.1.1.1 n (sym c.in-Some.ensures) c.index.result.now e1 c.unlink.new.arena c.unlink.result c.unlink.ensures (set ops c.op_bucket-op.result c.unlink.result) (ap (λ k. set ops k c.unlink.result) io) c.index-2.result.now e2 c.unlink-2.new.arena c.unlink-2.result c.unlink-2.ensures (set tuples c.tuple_bucket-tuple.result c.unlink-2.result) (ap (λ k. set tuples k c.unlink-2.result) it) c.index-3.result.now e3

pub take-item-requires : goal.take-item-requires
take-item-requires c =
    let r = c.requires in let was = c.args.arena.now in let ops = c.args.heads.now.ops.items in let tuples = c.args.heads.now.tuples.items in let sessions = c.args.heads.now.sessions.items in let p = c.args.place in let n = c.in-Some.node.now in
    let long : vec_len c.args.heads.now.ops ≡ length ops = omega arith in let long_too : vec_len c.args.heads.now.tuples ≡ length tuples = omega arith in
    let io : c.op_bucket-op.result ≡ bucket (length ops) (length tuples) Op n.item = c.op_bucket-op.ensures ∙ ap (λ k. bucket k k Op n.item) (c.len.ensures ∙ long) in
    let e1 = read_head ops c.op_bucket-op.result (bucket (length ops) (length tuples) Op n.item) c.index.result.now c.index.ensures io (r.1.1.0.log.buckets Op n.item) in
    let it : c.tuple_bucket-tuple.result ≡ bucket (length ops) (length tuples) Tuple n.item = c.tuple_bucket-tuple.ensures ∙ ap (λ k. bucket k k Tuple n.item) (c.len-2.ensures ∙ long_too) in
    let e2 = read_head tuples c.tuple_bucket-tuple.result (bucket (length ops) (length tuples) Tuple n.item) c.index-2.result.now c.index-2.ensures it (r.1.1.0.log.buckets Tuple n.item) in
    let is : c.session_bucket-session.result ≡ bucket (length ops) (length tuples) Session n.item = c.session_bucket-session.ensures.value in
    let e3 = read_head sessions c.session_bucket-session.result (bucket (length ops) (length tuples) Session n.item) c.index-3.result.now c.index-3.ensures is (r.1.1.0.log.buckets Session n.item) in
    still was ops tuples sessions r.0 r.1.0 p r.1.1.0 r.1.1.1 n (sym c.in-Some.ensures) c.index.result.now e1 c.unlink.new.arena c.unlink.result c.unlink.ensures (set ops c.op_bucket-op.result c.unlink.result) (ap (λ k. set ops k c.unlink.result) io) c.index-2.result.now e2 c.unlink-2.new.arena c.unlink-2.result c.unlink-2.ensures (set tuples c.tuple_bucket-tuple.result c.unlink-2.result) (ap (λ k. set tuples k c.unlink-2.result) it) c.index-3.result.now e3 c.unlink-3.new.arena c.unlink-3.result c.unlink-3.ensures (set sessions c.session_bucket-session.result c.unlink-3.result) (ap (λ k. set sessions k c.unlink-3.result) is)

pub returns : goal.returns
returns c = λ order clock holds there.
    let was = c.args.arena.now in let ops = c.args.heads.now.ops.items in let tuples = c.args.heads.now.tuples.items in let sessions = c.args.heads.now.sessions.items in let p = c.args.place in let n = c.in-Some.node.now in
    let long : vec_len c.args.heads.now.ops ≡ length ops = omega arith in let long_too : vec_len c.args.heads.now.tuples ≡ length tuples = omega arith in
    let io : c.op_bucket-op.result ≡ bucket (length ops) (length tuples) Op n.item = c.op_bucket-op.ensures ∙ ap (λ k. bucket k k Op n.item) (c.len.ensures ∙ long) in
    let e1 = read_head ops c.op_bucket-op.result (bucket (length ops) (length tuples) Op n.item) c.index.result.now c.index.ensures io (holds.log.buckets Op n.item) in
    let it : c.tuple_bucket-tuple.result ≡ bucket (length ops) (length tuples) Tuple n.item = c.tuple_bucket-tuple.ensures ∙ ap (λ k. bucket k k Tuple n.item) (c.len-2.ensures ∙ long_too) in
    let e2 = read_head tuples c.tuple_bucket-tuple.result (bucket (length ops) (length tuples) Tuple n.item) c.index-2.result.now c.index-2.ensures it (holds.log.buckets Tuple n.item) in
    let is : c.session_bucket-session.result ≡ bucket (length ops) (length tuples) Session n.item = c.session_bucket-session.ensures.value in
    let e3 = read_head sessions c.session_bucket-session.result (bucket (length ops) (length tuples) Session n.item) c.index-3.result.now c.index-3.ensures is (holds.log.buckets Session n.item) in
    takes_out was ops tuples sessions order clock p holds there n (sym c.in-Some.ensures) c.index.result.now e1 c.unlink.new.arena c.unlink.result c.unlink.ensures (set ops c.op_bucket-op.result c.unlink.result) (ap (λ k. set ops k c.unlink.result) io) c.index-2.result.now e2 c.unlink-2.new.arena c.unlink-2.result c.unlink-2.ensures (set tuples c.tuple_bucket-tuple.result c.unlink-2.result) (ap (λ k. set tuples k c.unlink-2.result) it) c.index-3.result.now e3 c.unlink-3.new.arena c.unlink-3.result c.unlink-3.ensures (set sessions c.session_bucket-session.result c.unlink-3.result) (ap (λ k. set sessions k c.unlink-3.result) is) c.take-item.new.self c.take-item.result c.take-item.ensures.value c.take-item.ensures.places
