-- Promise: the first packet of a connection, and the bytes that it is.
use Rattle.std.specs.Prelude.{ℕ, ◌+◌, ◌*◌, ◌<◌, ◌^◌, List, [], ◌∷◌, ◌++◌, length, map}
use Rattle.std.specs.List.{flat_map, AllByRecursion}
use Rattle.sb_postgres.specs.declared.startup.Parameter.{Parameter}
use Rattle.sb_postgres.specs.declared.startup.StartupPacket.{StartupPacket}
use Rattle.sb_postgres.specs.declared.startup.StartupPacket.TheVariants as code
use Rattle.sb_postgres.specs.Fields.{text, word, IsText, IsWord}

-- a parameter: its name and its value
abbrev pub Pair : Type 0
Pair = List ℕ × List ℕ

abbrev pub pair_seen : Parameter → Pair
pair_seen p = (p.name.now, p.value.now)

-- a packet without where it lies in memory
pub data Started : Type 0 where
  SslRequest : Started
  GssEncRequest : Started
  CancelRequest : (process key : ℕ) → Started
  Startup : (minor : ℕ) (parameters : List Pair) → Started

abbrev pub started : StartupPacket → Started
started code.SslRequest = SslRequest
started code.GssEncRequest = GssEncRequest
started (code.CancelRequest process key) = CancelRequest process key
started (code.Startup minor parameters) = Startup minor (map pair_seen parameters.items)

abbrev pub parameter : Pair → List ℕ
parameter (name, value) = text name ++ text value

-- a name has a byte at least, since an empty one ends the list
abbrev pub IsParameter : Pair → Type 0
IsParameter (name, value) = (0 < length name) × (IsText name × IsText value)

-- its bytes behind the length; the version is 3 and a minor one
abbrev pub body_of : Started → List ℕ
body_of SslRequest = word 80_877_103
body_of GssEncRequest = word 80_877_104
body_of (CancelRequest process key) = word 80_877_102 ++ (word process ++ word key)
body_of (Startup minor parameters) = word (3 * 2 ^ 16 + minor) ++ (flat_map parameter parameters ++ 0 ∷ [])

abbrev pub IsStarted : Started → Type 0
IsStarted SslRequest = Unit {0}
IsStarted GssEncRequest = Unit {0}
IsStarted (CancelRequest process key) = IsWord process × IsWord key
IsStarted (Startup minor parameters) = (minor < 2 ^ 16) × AllByRecursion IsParameter parameters
