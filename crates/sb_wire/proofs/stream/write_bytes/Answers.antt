use Rattle.std.proofs.Common.{◌≡◌, ◌∙◌, ◌+◌, ◌++◌, arith, rules, sym, ap, take, drop, List, ℕ, append_assoc}
use Rattle.std.proofs.lemmas.List.{take_rest, take-append-drop}
use Rattle.std.proofs.KnownBytes.{Appends-trans}
use Rattle.sb_wire.proofs.stream.write_bytes.Goals as goal

-- the writer took some more bytes
pub loop-rest-preserved-in-Ok : goal.loop-rest-preserved-in-Ok
loop-rest-preserved-in-Ok g c =
    let so_far = c.loop-rest.invariant in
    let rest = c.loop-rest.rest.now in
    let count = c.in-Ok.count in
    let split : c.args.bytes.now ≡ (so_far.0 ++ take count rest) ++ drop count rest =
    so_far.1 ∙ ap (λ (t : List ℕ). so_far.0 ++ t) (sym (take-append-drop count rest)) ∙ sym (append_assoc so_far.0 (take count rest) (drop count rest)) in (
      so_far.0 ++ take count rest,
      rw take_rest split,
      Appends-trans (g.W.Write.contents c.args.writer.now) (g.W.Write.contents c.loop-rest.writer) (g.W.Write.contents c.write_some.new.self) so_far.0 (take count rest) so_far.2 c.in-Ok.ensures.bytes,
    )

-- or a try is made again
pub loop-rest-smaller : goal.loop-rest-smaller
loop-rest-smaller g c =
    let fewer : c.again.new.self.left + 1 ≡ c.loop-rest.tries.left = c.again.ensures.fewer (search rules) in omega arith
