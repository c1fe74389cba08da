use Rattle.std.proofs.Common.{◌≡◌, drop}
use Rattle.sb_words.specs.Meanings.{entries_of, meaning_of}
use Rattle.sb_words.proofs.meaning.meaning_of.Given as goal

-- the word stands for what it stands for in the entries that are left
abbrev pub invariant-loop-own : goal.invariant-loop-own
invariant-loop-own g l = meaning_of l.word (entries_of (drop l.own-index l.table)) ≡ meaning_of l.word (entries_of l.table)
