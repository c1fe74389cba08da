-- Machine: the flags of several words, those of the first word first.
use Rattle.std.specs.Prelude.{◌≡◌, ◌<◌, ◌^◌, ℕ, zero, suc, Bool, List, [], ◌∷◌, ◌++◌, take, drop}
use Rattle.sb_value.specs.Flags.{flags_of, word_of}

unfoldable pub flags_in : List ℕ → List Bool
flags_in [] = []
flags_in (word ∷ words) = flags_of 64 word ++ flags_in words

-- the n words with these flags
unfoldable pub words_of : ℕ → List Bool → List ℕ
words_of zero flags = []
words_of (suc n) flags = word_of (take 64 flags) ∷ words_of n (drop 64 flags)

-- the list has n words of 64 bits
abbrev pub AreWords : ℕ → List ℕ → Type 0
AreWords zero words = words ≡ []
AreWords (suc n) [] = ⊥
AreWords (suc n) (word ∷ words) = (word < 2 ^ 64) × AreWords n words
