-- Machine: reading a connection's first packet from left to right, with the first fault that is met.
use Rattle.std.specs.Prelude.{ℕ, zero, suc, ◌/◌, ◌%◌, List, [], ◌∷◌, length, Result, Ok, Err, ◌==◌, if◌then◌else◌}
use Rattle.std.specs.Int.{w32}
use Rattle.sb_postgres.specs.declared.error.Fault.{Fault}
use Rattle.sb_postgres.specs.declared.error.Fault.TheVariants as fault
use Rattle.sb_postgres.specs.Reading.{◌>>=◌, Reader, number_at, text_at, ended}
use Rattle.sb_postgres.specs.Startup.{Pair, Started, SslRequest, GssEncRequest, CancelRequest, Startup}

-- parameters up to an empty name, at most so many
unfoldable pub parameters_at : ℕ → Reader (List Pair)
parameters_at zero bytes = Err fault.Short
parameters_at (suc n) bytes = do
  name ← text_at bytes
  if length name.0 == 0 then Ok ([], name.1) else (do
    value ← text_at name.1
    others ← parameters_at n value.1
    Ok ((name.0, value.0) ∷ others.0, others.1))

unfoldable pub cancel_at : List ℕ → Result Started Fault
cancel_at bytes = do
  process ← number_at w32 bytes
  key ← number_at w32 process.1
  ended (CancelRequest process.0 key.0) key.1

unfoldable pub session_at : ℕ → List ℕ → Result Started Fault
session_at version bytes = if version / 65_536 == 3 then (do
  parameters ← parameters_at (length bytes) bytes
  ended (Startup (version % 65_536) parameters.0) parameters.1) else Err fault.Version

unfoldable pub startup_at : List ℕ → Result Started Fault
startup_at bytes = do
  code ← number_at w32 bytes
  if code.0 == 80_877_102 then cancel_at code.1
      else (if code.0 == 80_877_103 then ended SslRequest code.1
      else (if code.0 == 80_877_104 then ended GssEncRequest code.1
      else session_at code.0 code.1))
