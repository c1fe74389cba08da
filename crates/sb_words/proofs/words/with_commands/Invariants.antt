use Rattle.std.proofs.Common.{◌≡◌, drop}
use Rattle.clap.specs.Words.{app_of}
use Rattle.sb_words.specs.Words.{with_commands}
use Rattle.sb_words.proofs.words.with_commands.Given as goal

-- once the commands that are left are added, all are
abbrev pub invariant-loop-verb : goal.invariant-loop-verb
invariant-loop-verb l = with_commands (app_of l.grown) (drop l.verb-index l.verbs) ≡ with_commands (app_of l.fn.command) l.verbs
