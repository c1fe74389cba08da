use Rattle.std.proofs.Common.{◌≡◌, drop}
use Rattle.clap.specs.Words.{app_of}
use Rattle.sb_words.specs.Words.{with_parts}
use Rattle.sb_words.proofs.words.with_all.Given as goal

-- once the parts that are left are added, all are
abbrev pub invariant-loop-part : goal.invariant-loop-part
invariant-loop-part l = with_parts (app_of l.grown) (drop l.part-index l.parts) ≡ with_parts (app_of l.fn.command) l.parts
