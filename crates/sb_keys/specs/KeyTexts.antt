-- Promise: whose keys a server admits: those that a text of an opened file names.
use Rattle.std.specs.Prelude.{◌≡◌, ℕ, Bool, true, List, Option, None, Some, Ok, Err, ⊤}
use Rattle.sb_keys.specs.Keys.{Admits, Table}
use Rattle.sb_keys.specs.Text.{keys_of}

-- it is all that a file gives, where that is known
abbrev pub IsTextOf : Option (List ℕ) → List ℕ → Type 0
IsTextOf None text = ⊤
IsTextOf (Some bytes) text = text ≡ bytes

-- it is that of a file that was opened
abbrev pub IsRead : (Option (List ℕ) → Bool) → List ℕ → Type 0
IsRead is_opened text = (bytes : Option (List ℕ)) × (is_opened bytes ≡ true) × IsTextOf bytes text

-- they are the keys that such a text names
abbrev pub AreReadKeys : (Option (List ℕ) → Bool) → Table → Type 0
AreReadKeys is_opened table = (text : List ℕ) × IsRead is_opened text × (keys_of text ≡ Ok table)

-- such a text has its first bad line there
abbrev pub IsBadLine : (Option (List ℕ) → Bool) → ℕ → Type 0
IsBadLine is_opened line = (text : List ℕ) × IsRead is_opened text × (keys_of text ≡ Err line)

-- it is a key of the tenant among such keys
abbrev pub IsReadKey : (Option (List ℕ) → Bool) → ℕ → List ℕ → Type 0
IsReadKey is_opened tenant key = (table : Table) × ∥ AreReadKeys is_opened table ∥₁ × Admits table tenant key
