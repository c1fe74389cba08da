-- Machine: reading from left to right, with the first fault that is met.
use Rattle.std.specs.Prelude.{◌≡◌, ℕ, zero, suc, ◌-◌, ◌^◌, List, [], ◌∷◌, length, take, drop, Option, Some, None, Result, Ok, Err, nat_lt, ◌==◌, if◌then◌else◌}
use Rattle.std.specs.Int.{Width, w16, w32, byte_len, from_be_bytes}
use Rattle.sb_postgres.specs.declared.error.Fault.{Fault}
use Rattle.sb_postgres.specs.declared.error.Fault.TheVariants as fault
use Rattle.sb_postgres.specs.declared.error.ReadError.{ReadError}
use Rattle.sb_postgres.specs.declared.error.ReadError.TheVariants as errors
use Rattle.sb_postgres.specs.declared.client_message.Target.{Target}
use Rattle.sb_postgres.specs.declared.client_message.Target.TheVariants.{Statement, Portal}
use Rattle.sb_postgres.specs.Messages.{Said, Query, Parse, Bind, Describe, Execute, Close, Flush, Sync, Terminate, Password}

infixl 10 ◌>>=◌
abbrev pub ◌>>=◌ : {A B : Type 0} → Result A Fault → (A → Result B Fault) → Result B Fault
(Ok x) >>= f = f x
(Err e) >>= f = Err e

-- what a function returned, seen by view, is what reading gives, unless memory ran out
abbrev pub Fails : {Y : Type 0} → ReadError → Result Y Fault → Type 0
Fails errors.Memory read = Unit {0}
Fails (errors.Fault f) read = read ≡ Err f

abbrev pub Gives : {X Y : Type 0} → (X → Y) → Result X ReadError → Result Y Fault → Type 0
Gives view (Ok x) read = read ≡ Ok (view x)
Gives view (Err e) read = Fails e read

-- a field is a value and the bytes behind it
abbrev pub Reader : Type 0 → Type 0
Reader X = List ℕ → Result (X × List ℕ) Fault

abbrev pub number_at : Width → Reader ℕ
number_at w bytes = if nat_lt (length bytes) (byte_len w) then Err fault.Short else Ok (from_be_bytes w (take (byte_len w) bytes), drop (byte_len w) bytes)

abbrev pub with_byte : ℕ → List ℕ × List ℕ → List ℕ × List ℕ
with_byte b read = (b ∷ read.0, read.1)

-- up to the first zero byte
unfoldable pub text_at : Reader (List ℕ)
text_at [] = Err fault.Short
text_at (zero ∷ rest) = Ok ([], rest)
text_at (suc b ∷ rest) = text_at rest >>= λ read. Ok (with_byte (suc b) read)

unfoldable pub value_at : Reader (Option (List ℕ))
value_at bytes = do
  n ← number_at w32 bytes
  if n.0 == 2 ^ 32 - 1 then Ok (None, n.1) else (if nat_lt (length n.1) n.0 then Err fault.Short else Ok (Some (take n.0 n.1), drop n.0 n.1))

unfoldable pub target_at : Reader Target
target_at [] = Err fault.Short
target_at (b ∷ rest) = if b == 83 then Ok (Statement, rest) else (if b == 80 then Ok (Portal, rest) else Err fault.Target)

unfoldable pub items_at : {X : Type 0} → Reader X → ℕ → Reader (List X)
items_at one zero bytes = Ok ([], bytes)
items_at one (suc n) bytes = do
  first ← one bytes
  others ← items_at one n first.1
  Ok (first.0 ∷ others.0, others.1)

unfoldable pub counted_at : {X : Type 0} → Reader X → Reader (List X)
counted_at one bytes = do
  n ← number_at w16 bytes
  items_at one n.0 n.1

-- nothing stands behind it
abbrev pub ended : {X : Type 0} → X → List ℕ → Result X Fault
ended x rest = if length rest == 0 then Ok x else Err fault.Trailing

unfoldable pub query_at : List ℕ → Result Said Fault
query_at bytes = do
  statements ← text_at bytes
  ended (Query statements.0) statements.1

unfoldable pub parse_at : List ℕ → Result Said Fault
parse_at bytes = do
  name ← text_at bytes
  statement ← text_at name.1
  types ← counted_at (number_at w32) statement.1
  ended (Parse name.0 statement.0 types.0) types.1

unfoldable pub bind_at : List ℕ → Result Said Fault
bind_at bytes = do
  portal ← text_at bytes
  statement ← text_at portal.1
  formats ← counted_at (number_at w16) statement.1
  values ← counted_at value_at formats.1
  results ← counted_at (number_at w16) values.1
  ended (Bind portal.0 statement.0 formats.0 values.0 results.0) results.1

unfoldable pub describe_at : List ℕ → Result Said Fault
describe_at bytes = do
  t ← target_at bytes
  name ← text_at t.1
  ended (Describe t.0 name.0) name.1

unfoldable pub close_at : List ℕ → Result Said Fault
close_at bytes = do
  t ← target_at bytes
  name ← text_at t.1
  ended (Close t.0 name.0) name.1

unfoldable pub execute_at : List ℕ → Result Said Fault
execute_at bytes = do
  portal ← text_at bytes
  rows ← number_at w32 portal.1
  ended (Execute portal.0 rows.0) rows.1

unfoldable pub password_at : List ℕ → Result Said Fault
password_at bytes = do
  key ← text_at bytes
  ended (Password key.0) key.1

unfoldable pub message_at : ℕ → List ℕ → Result Said Fault
message_at kind bytes =
    if kind == 81 then query_at bytes
    else (if kind == 80 then parse_at bytes
    else (if kind == 66 then bind_at bytes
    else (if kind == 68 then describe_at bytes
    else (if kind == 69 then execute_at bytes
    else (if kind == 67 then close_at bytes
    else (if kind == 72 then ended Flush bytes
    else (if kind == 83 then ended Sync bytes
    else (if kind == 88 then ended Terminate bytes
    else (if kind == 112 then password_at bytes
    else Err fault.Kind)))))))))
