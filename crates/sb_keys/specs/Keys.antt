-- Promise: the keys of tenants, and which key opens which tenant.
use Rattle.std.specs.Prelude.{◌≡◌, ℕ, ◌+◌, ◌==◌, nat_le, ◌&&◌, if◌then◌else◌, Bool, true, List, [], ◌∷◌, ◌++◌, length, Contains}
use Rattle.std.specs.List.{list_all}
use Rattle.std.specs.Char.{is_ascii_graphic}
use Rattle.hex.specs.Hex.{encode_lower}
use Rattle.sha2.specs.Sha256.{sha256}

-- the digests of each tenant's keys
abbrev pub Table : Type 0
Table = ℕ → List (List ℕ)

abbrev pub no_keys : Table
no_keys tenant = []

-- one more key of a tenant
abbrev pub with_key : Table → ℕ → List ℕ → Table
with_key table tenant digest t = if t == tenant then table t ++ digest ∷ [] else table t

-- the most keys of one tenant
abbrev pub keys_limit : ℕ
keys_limit = 64

-- 1 to 128 printable bytes without a space
abbrev pub is_key : List ℕ → Bool
is_key bytes = nat_le 1 (length bytes) && nat_le (length bytes) 128 && list_all is_ascii_graphic bytes

-- the digest of a key in hex, as a line names it
abbrev pub hex_digest : List ℕ → List ℕ
hex_digest key = encode_lower (sha256 key)

-- a key whose digest is among those of the tenant
abbrev pub Admits : Table → ℕ → List ℕ → Type 0
Admits table tenant key = (is_key key ≡ true) × Contains (table tenant) (sha256 key)
