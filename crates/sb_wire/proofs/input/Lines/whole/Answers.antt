-- the first newline ends the line
use Rattle.std.proofs.Common.{◌≡◌, ◌++◌, ◌∷◌, [], suc, take, drop, arith, add-one, length-append}
use Rattle.std.proofs.lemmas.List.{take_rest}
use Rattle.sb_wire.specs.Lines.{line, newline}
use Rattle.sb_wire.proofs.Streams.{none_before, completes-line, split_at}
use Rattle.sb_wire.proofs.input.Lines.whole.Goals as goal

pub returns : goal.returns
returns c =
    let bytes = c.args.bytes.now in
    let end = c.in_ok-end.end in
    let first = c.in_ok-end.ensures in
    let none = none_before bytes end (λ k h g e. first.0.before k (omega arith) h e) in
    let split : bytes ≡ (take end bytes ++ newline ∷ []) ++ drop (suc end) bytes = split_at bytes end first.0.high first.1 in
    let empty : c.args.self.now ≡ line [] = c.is_open.ensures c.if-is_open.false in (
      take end bytes ++ newline ∷ [],
      rw (take_rest, add-one) split,
      simp length-append (omega arith),
      rw (empty, c.whole_piece.ensures) (completes-line (line []) (take end bytes) none),
      empty,
    )
