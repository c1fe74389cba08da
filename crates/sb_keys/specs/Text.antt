-- Promise: the keys that a text names, one a line.
use Rattle.std.specs.Prelude.{ℕ, ◌+◌, ◌-◌, ◌==◌, nat_le, nat_lt, bytes_eq, codes, ◌&&◌, if◌then◌else◌, Bool, List, [], ◌∷◌, length, take, drop, Option, Some, None, option_and_then, option_map, Result, Ok, Err}
use Rattle.std.specs.Char.{is_ascii_digit, is_ascii_whitespace}
use Rattle.std.specs.List.{after_first, before_first, list_all, prefix_len, slice_split, suffix_len}
use Rattle.std.specs.Option.{option_map_or}
use Rattle.std.specs.Result.{result_ok}
use Rattle.std.specs.Str.Parse.{digits_value}
use Rattle.hex.specs.Hex.{decode_sized}
use Rattle.memchr.specs.Find.{is_byte}
use Rattle.sb_keys.specs.Keys.{Table, keys_limit, no_keys, with_key}

-- a comment begins with it
abbrev pub hash : ℕ
hash = 35

-- without blanks in front and behind
abbrev pub without_blanks_in_front : List ℕ → List ℕ
without_blanks_in_front bytes = drop (prefix_len is_ascii_whitespace bytes) bytes

abbrev pub trimmed : List ℕ → List ℕ
trimmed bytes = let behind = without_blanks_in_front bytes in take (length behind - suffix_len is_ascii_whitespace behind) behind

-- what a line says: it has no comment, and no blanks around
abbrev pub said : List ℕ → List ℕ
said line = trimmed (before_first (is_byte hash) line)

-- ---- one key

pub record Key : Type 0 where
  pub holder : ℕ
  pub digest : List ℕ

-- 1 to 9 digits
abbrev pub number_of : List ℕ → Option ℕ
number_of bytes = if nat_le 1 (length bytes) && nat_le (length bytes) 9 && list_all is_ascii_digit bytes then Some (digits_value 10 bytes) else None

-- who looks at the status pages: no tenant has so large a number
abbrev pub status_holder : ℕ
status_holder = 1_000_000_000

-- a tenant by its number, or `status`
abbrev pub holder_of : List ℕ → Option ℕ
holder_of word = if bytes_eq word (codes "status") then Some status_holder else number_of word

-- 32 bytes in hex
abbrev pub digest_of : List ℕ → Option (List ℕ)
digest_of bytes = result_ok (decode_sized bytes 32)

abbrev pub space : ℕ
space = 32

-- a holder, a space and a digest
abbrev pub key_of : List ℕ → Option Key
key_of bytes =
    option_and_then (λ h. option_map (λ d. record { holder = h; digest = d }) (digest_of (after_first (is_byte space) bytes)))
    (holder_of (before_first (is_byte space) bytes))

-- ---- the lines

-- there is room for so many keys of one tenant
abbrev pub with_named : Table → Key → Option Table
with_named table key = if nat_lt (length (table key.holder)) keys_limit then Some (with_key table key.holder key.digest) else None

-- a line that says nothing adds none
abbrev pub with_said : Table → List ℕ → Option Table
with_said table [] = Some table
with_said table (b ∷ bytes) = option_and_then (with_named table) (key_of (b ∷ bytes))

-- the table with what a line names, unless it is bad
abbrev pub with_line : Table → List ℕ → Option Table
with_line table line = with_said table (said line)

-- with what the lines behind the n-th one name, or the number of the first bad one
abbrev pub with_lines : Table → ℕ → List (List ℕ) → Result Table ℕ
with_lines table n [] = Ok table
with_lines table n (line ∷ lines) = option_map_or (λ more. with_lines more (n + 1) lines) (with_line table line) (Err (n + 1))

abbrev pub newline : ℕ
newline = 10

-- of a text; its first line has the number 1
abbrev pub keys_of : List ℕ → Result Table ℕ
keys_of text = with_lines no_keys 0 (slice_split (is_byte newline) text)
