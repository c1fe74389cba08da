use Rattle.std.proofs.Common.{◌≡◌, Bool, true, false, List, ℕ, [], inr, refl}
use Rattle.sb_wire.specs.declared.summary.Summary.{Summary}
use Rattle.starhost.specs.Commands.{IsSummaryLine, no_summary}
use Rattle.std.proofs.KnownBytes.{Appends-nil}
use Rattle.starhost.proofs.run_report.tell_summary.Goals as goal

no_line : (is_terminal : Bool) (s : Summary) → is_terminal ≡ false → IsSummaryLine is_terminal s []
no_line false s is = refl
no_line true s is = cc

one_line : (is_terminal : Bool) (s : Summary) (line : List ℕ) → is_terminal ≡ true → line ≡ no_summary → IsSummaryLine is_terminal s line
one_line true s line is same = inr same
one_line false s line is same = cc

pub returns-then-not-errors-clause-writes : goal.returns-then-not-errors-clause-writes
returns-then-not-errors-clause-writes g c =
    ([], no_line c.args.errors.now.is_terminal c.args.summary.now c.if-not-errors.true, [], [], refl, Appends-nil (g.E.Write.contents c.args.errors.now.sink), refl)

-- a line in its place
pub returns-clause-writes : goal.returns-clause-writes
returns-clause-writes g c =
    let w = c.write_bytes-in-Err.ensures.writes in
    (c.as_bytes.result.now, one_line c.args.errors.now.is_terminal c.args.summary.now c.as_bytes.result.now c.if-not-errors.false c.as_bytes.ensures.value, w.0, w.1, w.2, w.3, w.4)
