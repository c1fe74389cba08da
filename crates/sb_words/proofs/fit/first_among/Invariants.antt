use Rattle.std.proofs.Common.{drop}
use Rattle.clap.specs.Words.{rows_of, found_of}
use Rattle.sb_words.specs.Asking.{AllFit, IsFirstOf}
use Rattle.sb_words.specs.declared.argument.Unfit.{Unfit}
use Rattle.sb_words.proofs.fit.first_among.Given as goal

-- the parts so far fit
abbrev pub invariant-loop-part : goal.invariant-loop-part
invariant-loop-part l = record {
  none : AllFit (rows_of (found_of l.matches)) (drop l.part-index l.parts) → AllFit (rows_of (found_of l.matches)) l.parts;
  first : (u : Unfit) → IsFirstOf (rows_of (found_of l.matches)) u (drop l.part-index l.parts) → IsFirstOf (rows_of (found_of l.matches)) u l.parts;
}
