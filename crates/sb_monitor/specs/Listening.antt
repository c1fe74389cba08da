-- Promise: the first line of a server, and why nothing listens.
use Rattle.std.specs.Prelude.{ℕ, ◌≡◌, ◌⊎◌, ◌++◌, List, Option, codes, decimal}
use Rattle.std.specs.Io.KnownBytes.{Appends, Keeps}
use Rattle.sb_wire.specs.Stream.{MayFail}
use Rattle.sb_wire.specs.declared.fault.StreamError.TheVariants as stream
use Rattle.sb_monitor.specs.declared.listener.ListenError.{ListenError}
use Rattle.sb_monitor.specs.declared.listener.ListenError.TheVariants.{CannotListen, Stream}

-- the first line of a server
abbrev pub listening_line : ℕ → List ℕ
listening_line port = codes "listening " ++ decimal port ++ codes "\n"

-- a server writes it, and nothing else
abbrev pub TellsPort : Option (List ℕ) → Option (List ℕ) → Type 0
TellsPort before after = (port : ℕ) × Appends before after (listening_line port)

module _ {W : Type 0} (refuses : W → Type 0) (contents : W → Option (List ℕ)) where
  -- the writer fails; or nothing is written: nothing listens at the port, or there was no memory
  abbrev pub FailsToListen : W → W → ListenError → Type 0
  FailsToListen writer after why =
      ((why ≡ Stream stream.WriteFault) × MayFail refuses contents after)
      ⊎ (Keeps (contents writer) (contents after) × ((why ≡ CannotListen) ⊎ (why ≡ Stream stream.NoMemory)))
