-- Promise: records, and the bytes that they are written as.
use Rattle.std.specs.Prelude.{◌≡◌, ◌<◌, ◌≤◌, ◌^◌, ℕ, List, [], ◌∷◌, ◌++◌, length, Option, Some, None}
use Rattle.std.specs.Borrow.{Bor}
use Rattle.std.specs.Int.{w32, to_be_bytes}
use Rattle.sb_durable.specs.declared.record.Record.{Record}

-- a record without where it lies in memory
pub record Entry : Type 0 where
  pub tenant : ℕ
  pub session : ℕ
  pub line : List ℕ

pub record IsEntry (entry : Entry) : Type 0 where
  pub tenant : entry.tenant < 2 ^ 32
  pub session : entry.session < 256
  pub line : length entry.line ≤ 4096

abbrev pub entry_of : Record → Entry
entry_of r = record { tenant = r.tenant; session = r.session; line = r.text.now }

-- four bytes of tenant, one of session, four of length, and the line's
abbrev pub entry_bytes : Entry → List ℕ
entry_bytes entry = to_be_bytes w32 entry.tenant ++ (entry.session ∷ (to_be_bytes w32 (length entry.line) ++ entry.line))

abbrev pub bytes_of : List Entry → List ℕ
bytes_of [] = []
bytes_of (entry ∷ entries) = entry_bytes entry ++ bytes_of entries

-- What was found at the front of bytes is this record, and these bytes are behind it.
abbrev pub Takes : Option (Record × Bor (List ℕ)) → Entry → List ℕ → Type 0
Takes None entry rest = ⊥
Takes (Some found) entry rest = (entry_of found.0 ≡ entry) × (found.1.now ≡ rest)
