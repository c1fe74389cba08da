use Rattle.std.proofs.Common.{ℕ, ◌+◌, List, ◌∷◌, ◌++◌, drop, ap, arith, ◌∙◌, length-drop, subst}
use Rattle.std.specs.Int.{w32, w64, to_be_bytes}
use Rattle.sqlite_disk.specs.Disk.{Holds}
use Rattle.sqlite_disk.specs.Digest.{digest}
use Rattle.sb_durable.proofs.Finding.{filled_front, opening_there, shut_end, cut_end, short_end, no_long_shut, no_long_block, no_other_digest, block_found}
use Rattle.sb_durable.proofs.segment.walk.block_at.Goals as goal

pub returns-then-len-place-lt-OPENING-clause-found : goal.returns-then-len-place-lt-OPENING-clause-found
returns-then-len-place-lt-OPENING-clause-found g c clean =
    let file = g.D.Disk.seen c.args.disk.now in
    short_end (drop c.args.place.at file) (omega (arith, c.if-len-place-lt-OPENING.true, c.requires.len clean, length-drop c.args.place.at file))

-- a shut gate
pub returns-then-behind-clause-damaged : goal.returns-then-behind-clause-damaged
returns-then-behind-clause-damaged g c is clean contents goes =
    let file = g.D.Disk.seen c.args.disk.now in
    let whole = c.requires.len (c.read_at.ensures.clean clean) in
    let there = opening_there file c.read_at.new.buf c.args.place.at _ _ _ (c.in_ok-read_at.ensures.read clean (omega arith)) c.opening_of-opening.ensures.whole in
    no_long_shut _ _ _ _ contents c.if-opening-eq0.true (omega (arith, c.if-behind.true, whole, length-drop (c.args.place.at + 13) file)) there goes

pub returns-then-opening-eq0-clause-found : goal.returns-then-opening-eq0-clause-found
returns-then-opening-eq0-clause-found g c clean =
    let file = g.D.Disk.seen c.args.disk.now in
    let whole = c.requires.len (c.read_at.ensures.clean clean) in
    let there = opening_there file c.read_at.new.buf c.args.place.at _ _ _ (c.in_ok-read_at.ensures.read clean (omega arith)) c.opening_of-opening.ensures.whole in
    shut_end _ _ _ c.if-opening-eq0.true (omega (arith, c.if-behind.false, whole, length-drop (c.args.place.at + 13) file)) there

-- an open gate, and a length that no content has
pub returns-then-opening-gt-MAX_CONTENT-clause-damaged : goal.returns-then-opening-gt-MAX_CONTENT-clause-damaged
returns-then-opening-gt-MAX_CONTENT-clause-damaged g c is clean contents goes =
    let file = g.D.Disk.seen c.args.disk.now in
    let there = opening_there file c.read_at.new.buf c.args.place.at _ _ _ (c.in_ok-read_at.ensures.read clean (omega arith)) c.opening_of-opening.ensures.whole in
    no_long_block _ _ _ _ _ _ contents c.if-opening-eq0.false c.opening_of-opening.ensures.size (omega (arith, c.if-opening-gt-MAX_CONTENT.true)) there goes

-- or that the file is too short for
pub returns-then-opening-behind-clause-found : goal.returns-then-opening-behind-clause-found
returns-then-opening-behind-clause-found g c clean =
    let file = g.D.Disk.seen c.args.disk.now in
    let whole = c.requires.len (c.read_at.ensures.clean clean) in
    let there = opening_there file c.read_at.new.buf c.args.place.at _ _ _ (c.in_ok-read_at.ensures.read clean (omega arith)) c.opening_of-opening.ensures.whole in
    cut_end _ _ _ _ _ (omega (arith, c.if-opening-gt-MAX_CONTENT.false)) (omega (arith, c.if-opening-behind.true, whole, length-drop (c.args.place.at + 13) file)) there

-- a content that is there
pub returns-then-own-opening-clause-damaged : goal.returns-then-own-opening-clause-damaged
returns-then-own-opening-clause-damaged g c is clean contents goes =
    let file = g.D.Disk.seen c.args.disk.now in
    let there = opening_there file c.read_at.new.buf c.args.place.at _ _ _ (c.in_ok-read_at.ensures.read (c.fill.ensures.clean clean) (omega arith)) c.opening_of-opening.ensures.whole in
    let filled = filled_front file c.fill.new.bytes.items (c.args.place.at + 13) c.opening_of-opening.result.size c.in_ok-fill.ensures.size
    (λ some. subst (λ f. Holds f (c.args.place.at + 13) c.fill.new.bytes.items) c.read_at.ensures.seen (c.in_ok-fill.ensures.read clean some)) in
    no_other_digest _ _ _ _ c.digest_of-own.result c.fill.new.bytes.items _ _ _ contents c.if-opening-eq0.false c.opening_of-opening.ensures.size c.opening_of-opening.ensures.chain c.digest_of-own.type_inv c.in_ok-fill.ensures.size filled
    (c.digest_of-own.ensures.value ∙ ap (λ (l : List ℕ). digest c.args.place.chain l) c.deref.ensures.value) c.if-own-opening.true there goes

pub returns-clause-found : goal.returns-clause-found
returns-clause-found g c clean =
    let file = g.D.Disk.seen c.args.disk.now in
    let there = opening_there file c.read_at.new.buf c.args.place.at _ _ _ (c.in_ok-read_at.ensures.read (c.fill.ensures.clean clean) (omega arith)) c.opening_of-opening.ensures.whole in
    let filled = filled_front file c.fill.new.bytes.items (c.args.place.at + 13) c.opening_of-opening.result.size c.in_ok-fill.ensures.size
    (λ some. subst (λ f. Holds f (c.args.place.at + 13) c.fill.new.bytes.items) c.read_at.ensures.seen (c.in_ok-fill.ensures.read clean some)) in
    let size = c.opening_of-opening.result.size in
    let chain = c.opening_of-opening.result.chain in (
      _,
      _,
      c.if-opening-eq0.false,
      block_found _ _ size chain c.digest_of-own.result c.fill.new.bytes.items _ _ c.in_ok-fill.ensures.size (c.digest_of-own.ensures.value ∙ ap (λ (l : List ℕ). digest c.args.place.chain l) c.deref.ensures.value) c.if-own-opening.false
          (there ∙ ap (λ (l : List ℕ). c.opening_of-opening.result.gate ∷ (to_be_bytes w32 size ++ (to_be_bytes w64 chain ++ l))) filled),
    )
