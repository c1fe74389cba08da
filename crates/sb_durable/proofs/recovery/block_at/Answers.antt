use Rattle.std.proofs.Common.{◌≡◌, ℕ, ◌+◌, List, ◌∷◌, ◌++◌, length, drop, ap, sym, inl, inr, arith, ◌∙◌, length-drop, subst, rules}
use Rattle.sqlite_disk.specs.Disk.{Holds}
use Rattle.sb_durable.proofs.Repair.{short_end}
use Rattle.sb_durable.proofs.Walk.{held_front, gate_there, cut_end, no_long_block, block_found}
use Rattle.sb_durable.proofs.recovery.block_at.Goals as goal

pub returns-then-len-at-le1-clause-found : goal.returns-then-len-at-le1-clause-found
returns-then-len-at-le1-clause-found g c clean =
    let file = g.D.Disk.seen c.args.disk.now in
    short_end (drop c.args.at file) (omega (arith, c.if-len-at-le1.true, c.requires.len clean, length-drop c.args.at file))

pub returns-then-len-at-lt5-clause-found : goal.returns-then-len-at-lt5-clause-found
returns-then-len-at-lt5-clause-found g c clean =
    let file = g.D.Disk.seen c.args.disk.now in
    let whole = c.requires.len (c.read_at.ensures.clean clean) in
    let here : drop c.args.at file ≡ 1 ∷ drop (c.args.at + 1) file = gate_there file c.read_at.new.buf c.args.at (c.in_ok-read_at.ensures.read clean (omega arith)) (omega arith) (search rules) in
    cut_end (drop c.args.at file) (drop (c.args.at + 1) file) here (inl (omega (arith, c.if-len-at-lt5.true, whole, length-drop (c.args.at + 1) file)))

pub returns-then-size-gt-MAX_CONTENT-clause-damaged : goal.returns-then-size-gt-MAX_CONTENT-clause-damaged
returns-then-size-gt-MAX_CONTENT-clause-damaged g c is clean contents stands =
    let file = g.D.Disk.seen c.args.disk.now in
    let gate : drop c.args.at file ≡ 1 ∷ drop (c.args.at + 1) file = gate_there file c.read_at.new.buf c.args.at (c.in_ok-read_at.ensures.read (c.read_at-2.ensures.clean clean) (omega arith)) (omega arith) (search rules) in
    let size = held_front file c.read_at-2.new.buf (c.args.at + 1) (subst (λ f. Holds f (c.args.at + 1) c.read_at-2.new.buf) c.read_at.ensures.seen (c.in_ok-read_at-2.ensures.read clean (omega arith))) in
    no_long_block (drop c.args.at file) c.read_at-2.new.buf _ c.number_of-size.result (gate ∙ ap (λ (l : List ℕ). 1 ∷ l) size) (omega arith) c.number_of-size.ensures.value contents stands (omega (arith, c.if-size-gt-MAX_CONTENT.true))

pub returns-then-size-len-clause-found : goal.returns-then-size-len-clause-found
returns-then-size-len-clause-found g c clean =
    let file = g.D.Disk.seen c.args.disk.now in
    let whole = c.requires.len (c.read_at.ensures.clean (c.read_at-2.ensures.clean clean)) in
    let gate : drop c.args.at file ≡ 1 ∷ drop (c.args.at + 1) file = gate_there file c.read_at.new.buf c.args.at (c.in_ok-read_at.ensures.read (c.read_at-2.ensures.clean clean) (omega arith)) (omega arith) (search rules) in
    let size = held_front file c.read_at-2.new.buf (c.args.at + 1) (subst (λ f. Holds f (c.args.at + 1) c.read_at-2.new.buf) c.read_at.ensures.seen (c.in_ok-read_at-2.ensures.read clean (omega arith))) in
    let behind = drop (c.args.at + 1 + length c.read_at-2.new.buf) file in
    cut_end (drop c.args.at file) (drop (c.args.at + 1) file) gate
    (inr (c.number_of-size.result, behind, omega (arith, c.if-size-gt-MAX_CONTENT.false), omega (arith, c.if-size-len.true, whole, length-drop (c.args.at + 1 + length c.read_at-2.new.buf) file), size ∙ ap (λ (l : List ℕ). l ++ behind) (sym c.number_of-size.ensures.bytes)))

pub returns-clause-found : goal.returns-clause-found
returns-clause-found g c clean =
    let file = g.D.Disk.seen c.args.disk.now in
    let whole = c.requires.len (c.read_at.ensures.clean (c.read_at-2.ensures.clean clean)) in
    let gate : drop c.args.at file ≡ 1 ∷ drop (c.args.at + 1) file = gate_there file c.read_at.new.buf c.args.at (c.in_ok-read_at.ensures.read (c.read_at-2.ensures.clean clean) (omega arith)) (omega arith) (search rules) in
    let size = held_front file c.read_at-2.new.buf (c.args.at + 1) (subst (λ f. Holds f (c.args.at + 1) c.read_at-2.new.buf) c.read_at.ensures.seen (c.in_ok-read_at-2.ensures.read clean (omega arith))) in
    block_found (drop c.args.at file) c.read_at-2.new.buf _ c.number_of-size.result (gate ∙ ap (λ (l : List ℕ). 1 ∷ l) size) (omega arith) c.number_of-size.ensures.value c.number_of-size.ensures.bytes
    (omega (arith, c.if-size-gt-MAX_CONTENT.false)) (omega (arith, c.if-size-len.false, whole, length-drop c.args.at file, c.if-len-at-lt5.false))
