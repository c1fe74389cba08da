use Rattle.std.proofs.Common.{ℕ, false, Some, sym, ap, refl}
use Rattle.sb_wire.specs.Counts.{line_refusal}
use Rattle.sb_wire.proofs.Counting.{adds-one}
use Rattle.sb_wire.proofs.summary.Summary.add_refusal.Goals as goal

pub returns : goal.returns
returns c = adds-one c.args.self.now c.add.new.self (line_refusal c.args.refusal) (Some c.number.result) false (ap (λ (n : ℕ). Some n) (sym c.number.ensures)) refl c.add.ensures.lines c.add.ensures.steps c.add.ensures.refused
