-- Promise: the digest of the key that an input's first line is.
use Rattle.std.specs.Prelude.{◌≡◌, ℕ, Bool, true, false, List, [], ◌∷◌, ◌++◌, codes, Option}
use Rattle.std.specs.Io.KnownBytes.{Appends, Consumes}
use Rattle.sb_keys.specs.Keys.{hex_digest, is_key}
use Rattle.sb_wire.specs.Lines.{Piece, line, too_long}
use Rattle.sb_wire.specs.Stream.{AreFirst}
use Rattle.sb_keys.specs.declared.key_digest.Digested.{Digested}
use Rattle.sb_keys.specs.declared.key_digest.Digested.TheVariants.{Awaits, Told, NoKey}

-- as a line of a file of keys names it
abbrev pub digest_text : List ℕ → List ℕ
digest_text key = hex_digest key ++ codes "\n"

-- some bytes are read whose first line is a key, and its digest is written
pub record TellsDigest (input rest held holds : Option (List ℕ)) : Type 0 where
  pub seen : List ℕ
  pub reads : Consumes input rest seen
  pub key : List ℕ
  pub first : AreFirst (line key ∷ []) seen
  pub is_key : is_key key ≡ true
  pub appends : Appends held holds (digest_text key)

-- ---- as a stream

abbrev pub State : Type 0
State = Unit {0} × Digested

abbrev pub DigestsBy : Bool → List ℕ → List ℕ → Digested → Type 0
DigestsBy true bytes text new = (text ≡ digest_text bytes) × (new ≡ Told)
DigestsBy false bytes text new = (text ≡ []) × (new ≡ NoKey)

-- the first line is told, if it is a key
abbrev pub Digests : State → Piece → List ℕ → State → Type 0
Digests old too_long text new = (text ≡ []) × (new.1 ≡ NoKey)
Digests old (line bytes) text new = DigestsBy (is_key bytes) bytes text new.1

abbrev pub is_done : Digested → Bool
is_done Awaits = false
is_done Told = true
is_done NoKey = true

abbrev pub over : State → Bool
over state = is_done state.1
