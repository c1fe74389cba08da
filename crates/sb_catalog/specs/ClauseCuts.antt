-- Machine: where a clause stands among the tokens of a line.
use Rattle.std.specs.Prelude.{ℕ, Bool, true, false, if◌then◌else◌, List, [], ◌∷◌, Option, Some, None, option_map, slice_range}
use Rattle.sb_syntax.specs.declared.cursor.Token.{Token}
use Rattle.sb_syntax.specs.declared.kind.TokenKind.{TokenKind}
use Rattle.sb_syntax.specs.declared.kind.TokenKind.TheVariants as k
use Rattle.sb_syntax.specs.Input.{same_kind}

-- A clause begins behind such a word. These words stand nowhere else in a rule.
abbrev pub begins_clause : TokenKind → Bool
begins_clause k.On = true
begins_clause k.If = true
begins_clause k.Then = true
begins_clause k.Precedes = true
begins_clause k.Follows = true
begins_clause k.NoPriority = true
begins_clause other = false

-- where the first token of a kind ends, and the tokens behind it
abbrev pub behind : TokenKind → List Token → Option (ℕ × List Token)
behind word [] = None
behind word (t ∷ ts) = if same_kind t.kind word then Some (t.end, ts) else behind word ts

-- the tokens up to the next clause
abbrev pub inside : List Token → List Token
inside [] = []
inside (t ∷ ts) = if begins_clause t.kind then [] else t ∷ inside ts

-- where the last of them ends, or else the place before them
abbrev pub end_of : ℕ → List Token → ℕ
end_of place [] = place
end_of place (t ∷ ts) = end_of t.end ts

-- the bytes behind a word up to the next clause
abbrev pub clause : List ℕ → List Token → TokenKind → Option (List ℕ)
clause line tokens word = option_map (λ b. slice_range line b.0 (end_of b.0 (inside b.1))) (behind word tokens)
