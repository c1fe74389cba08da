-- the first newline ends the line
use Rattle.std.proofs.Common.{◌≡◌, ◌++◌, ◌∷◌, [], suc, take, drop, length, arith, add-one, subst, length-append}
use Rattle.std.proofs.lemmas.List.{take_rest, take_all}
use Rattle.sb_wire.specs.Lines.{newline}
use Rattle.sb_wire.proofs.Streams.{none_before, NoNewline, completes-none, completes-line, split_at}
use Rattle.sb_wire.proofs.input.Lines.feed.Goals as goal

pub returns-in-Some : goal.returns-in-Some
returns-in-Some c =
    let bytes = c.args.bytes.now in
    let end = c.in-Some.end in
    let first = c.in-Some.ensures in
    let none = none_before bytes end (λ k h g e. first.0.before k (omega arith) h e) in
    let split : bytes ≡ (take end bytes ++ newline ∷ []) ++ drop (suc end) bytes = split_at bytes end first.0.high first.1 in (
      take end bytes ++ newline ∷ [],
      rw (take_rest, add-one) split,
      simp length-append (omega arith),
      rw c.keep.ensures (completes-line c.args.self.now (take end bytes) none),
    )

pub returns-in-None : goal.returns-in-None
returns-in-None c =
    let bytes = c.args.bytes.now in
    let none : NoNewline bytes = subst NoNewline (take_all (length bytes) bytes (omega arith)) (none_before bytes (length bytes) (λ k h g e. c.in-None.ensures k (omega arith) h e)) in
    rw c.keep-in-None.ensures (completes-none c.args.self.now bytes none)
