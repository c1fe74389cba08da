-- Promise: the fields of messages, and the bytes that they are.
use Rattle.std.specs.Prelude.{ℕ, ◌+◌, ◌-◌, ◌<◌, ◌^◌, List, [], ◌∷◌, ◌++◌, length, Option, Some, None, IfSome}
use Rattle.std.specs.List.{flat_map, AllByRecursion}
use Rattle.std.specs.Int.{w16, w32, to_be_bytes}
use Rattle.sb_postgres.specs.declared.client_message.Target.{Target}
use Rattle.sb_postgres.specs.declared.client_message.Target.TheVariants.{Statement, Portal}

-- a text and a zero byte behind it
abbrev pub text : List ℕ → List ℕ
text bytes = bytes ++ 0 ∷ []

-- a text has no zero byte
abbrev pub IsText : List ℕ → Type 0
IsText bytes = AllByRecursion (λ b. 0 < b) bytes

-- two bytes, four bytes
abbrev pub half : ℕ → List ℕ
half n = to_be_bytes w16 n

abbrev pub word : ℕ → List ℕ
word n = to_be_bytes w32 n

abbrev pub IsHalf : ℕ → Type 0
IsHalf n = n < 2 ^ 16

abbrev pub IsWord : ℕ → Type 0
IsWord n = n < 2 ^ 32

-- a value with its length, or the length -1 where there is none
abbrev pub value : Option (List ℕ) → List ℕ
value None = word (2 ^ 32 - 1)
value (Some bytes) = word (length bytes) ++ bytes

abbrev pub IsValue : Option (List ℕ) → Type 0
IsValue v = IfSome v (λ bytes. length bytes + 1 < 2 ^ 32)

-- how many there are, and then each
abbrev pub counted : {X : Type 0} → (X → List ℕ) → List X → List ℕ
counted one xs = half (length xs) ++ flat_map one xs

abbrev pub AreCounted : {X : Type 0} → (X → Type 0) → List X → Type 0
AreCounted Is xs = IsHalf (length xs) × AllByRecursion Is xs

-- `S` or `P`
abbrev pub letter_of : Target → ℕ
letter_of Statement = 83
letter_of Portal = 80

abbrev pub target : Target → List ℕ
target t = letter_of t ∷ []
