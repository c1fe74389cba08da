use Rattle.std.proofs.Common.{inl, inr}
use Rattle.sb_words.specs.Words.{findings_of}
use Rattle.sb_words.proofs.Fitting.{asks_once, asks_allowed, asks_placed}
use Rattle.sb_words.proofs.Usual.{no_word}
use Rattle.sb_words.proofs.laws.words_ask_once.Goals as goal

pub returns-clause-once : goal.returns-clause-once
returns-clause-once c = λ words a b one other. asks_once (findings_of words) a b one.1 other.1

pub returns-clause-unfit : goal.returns-clause-unfit
returns-clause-unfit c = λ words u either a asks. elim either [
  | inl unfit ↦ asks_allowed (findings_of words) u a asks.1 unfit.1
  | inr misplaced ↦ asks_placed (findings_of words) u a asks.1 misplaced.1
]

pub returns-clause-usual : goal.returns-clause-usual
returns-clause-usual c = no_word
