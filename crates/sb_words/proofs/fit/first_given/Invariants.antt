use Rattle.std.proofs.Common.{drop}
use Rattle.clap.specs.Words.{rows_of, found_of}
use Rattle.sb_words.specs.Asking.{IsFirstGiven, NoneGiven}
use Rattle.sb_words.specs.declared.argument.Unfit.{Unfit}
use Rattle.sb_words.proofs.fit.first_given.Given as goal

-- none of the parts so far is given
abbrev pub invariant-loop-part : goal.invariant-loop-part
invariant-loop-part l = record {
  none : NoneGiven (rows_of (found_of l.matches)) (drop l.part-index l.parts) → NoneGiven (rows_of (found_of l.matches)) l.parts;
  first : (u : Unfit) → IsFirstGiven (rows_of (found_of l.matches)) u (drop l.part-index l.parts) → IsFirstGiven (rows_of (found_of l.matches)) u l.parts;
}
