-- Machine: what a loop has read of a list, whatever its items are.
use Rattle.std.specs.Prelude.{◌≡◌, ℕ, Bool, true, false, ◌&&◌, nat_lt, List, [], ◌∷◌, ◌++◌, length, Option, Some, None, Result, Ok, Err}
use Rattle.sb_syntax.specs.declared.kind.TokenKind.{TokenKind}
use Rattle.sb_syntax.specs.declared.error.Fault.{Fault}
use Rattle.sb_syntax.specs.declared.error.Fault.TheVariants.{NoMemory}
use Rattle.sb_syntax.specs.Input.{Input}
use Rattle.sb_syntax.specs.Reading.{sees, next}

-- whether a list of n items may have one more, where there may be a limit
abbrev pub has_room : Option ℕ → ℕ → Bool
has_room None n = true
has_room (Some most) n = nat_lt n most

-- true if one more follows the n items of a list
abbrev pub follows : TokenKind → Option ℕ → ℕ → Input → Bool
follows sep most n ts = sees sep ts && has_room most n

-- the items that were read so far, from the tokens old to the tokens ts: gives says what the reading of one may give
pub data HasRead {T : Type 0} (sep : TokenKind) (most : Option ℕ) (gives : Input → Result T Fault → Input → Type 0) (old : Input) : List T → Input → Type 0 where
  first : {x : T} {ts : Input} → gives old (Ok x) ts → HasRead sep most gives old (x ∷ []) ts
  another : {xs : List T} {x : T} {ts rest : Input} → HasRead sep most gives old xs ts → follows sep most (length xs) ts ≡ true → gives (next ts) (Ok x) rest → HasRead sep most gives old (xs ++ x ∷ []) rest

-- no more item follows
abbrev pub EndsAt : {T : Type 0} → TokenKind → Option ℕ → List T → Input → Type 0
EndsAt sep most xs ts = follows sep most (length xs) ts ≡ false

-- the first item is refused, or one that follows, or memory ran out
pub data IsRefused {T : Type 0} (sep : TokenKind) (most : Option ℕ) (gives : Input → Result T Fault → Input → Type 0) (old : Input) : Fault → Type 0 where
  at_first : {e : Fault} {ts : Input} → gives old (Err e) ts → IsRefused sep most gives old e
  behind : {e : Fault} {xs : List T} {ts rest : Input} → HasRead sep most gives old xs ts → follows sep most (length xs) ts ≡ true → gives (next ts) (Err e) rest → IsRefused sep most gives old e
  no_memory : IsRefused sep most gives old NoMemory
