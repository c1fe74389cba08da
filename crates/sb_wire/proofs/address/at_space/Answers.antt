-- the first space cuts
use Rattle.std.proofs.Common.{sym, arith, add-one}
use Rattle.std.proofs.lemmas.List.{take_rest}
use Rattle.sb_wire.proofs.Cuts.{space-cut, space-none}
use Rattle.sb_wire.proofs.address.at_space.Goals as goal

pub returns-in_err-place : goal.returns-in_err-place
returns-in_err-place c =
    rw c.from_residual.ensures (sym (space-none c.args.bytes.now (λ k h e. c.in_err-place.ensures k (omega arith) h e)))

pub returns : goal.returns
returns c =
    let first = c.in_ok-place.ensures in
    rw (take_rest, add-one) (sym (space-cut c.args.bytes.now c.in_ok-place.place first.0.high (λ k h e. first.0.before k (omega arith) h e) first.1))
