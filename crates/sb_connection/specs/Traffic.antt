-- Machine: what goes over a stream, by what its calls were answered.
use Rattle.std.specs.Prelude.{ℕ, zero, suc, Bool, true, false, not, ◌||◌, nat_lt, List, [], ◌∷◌, ◌++◌, length, take, flat_map, Result, Ok, Err}
use Rattle.std.specs.List.{list_any}
use Rattle.std.specs.IoError.{error_kind}
use Rattle.std.specs.declared.io.Error.{Error}
use Rattle.std.specs.declared.io.ErrorKind.{ErrorKind}
use Rattle.std.specs.declared.io.ErrorKind.TheVariants.{WouldBlock, Interrupted}

-- a read with what stood in the buffer behind it, or a write with what it was to take, and how many bytes it used
abbrev pub Call : Type 0
Call = List ℕ × Result ℕ Error

pub record Traffic : Type 0 where
  pub reads : List Call
  pub writes : List Call

abbrev pub no_traffic : Traffic
no_traffic = record { reads = []; writes = [] }

abbrev pub after_read : Traffic → List ℕ → Result ℕ Error → Traffic
after_read t bytes answer = record t { reads = t.reads ++ (bytes, answer) ∷ [] }

abbrev pub after_write : Traffic → List ℕ → Result ℕ Error → Traffic
after_write t bytes answer = record t { writes = t.writes ++ (bytes, answer) ∷ [] }

-- ---- bytes

abbrev pub used_by : List ℕ → Result ℕ Error → List ℕ
used_by bytes (Ok n) = take n bytes
used_by bytes (Err e) = []

abbrev pub used : Call → List ℕ
used call = used_by call.0 call.1

-- all bytes that came
abbrev pub gave : Traffic → List ℕ
gave t = flat_map used t.reads

-- all bytes that went
abbrev pub took : Traffic → List ℕ
took t = flat_map used t.writes

-- ---- the end, and faults

-- it used no byte, though there was one
abbrev pub uses_none : List ℕ → Result ℕ Error → Bool
uses_none bytes (Ok zero) = nat_lt 0 (length bytes)
uses_none bytes (Ok (suc n)) = false
uses_none bytes (Err e) = false

-- the client sends no more
abbrev pub has_ended : Traffic → Bool
has_ended t = list_any (λ call. uses_none call.0 call.1) t.reads

-- a write is to be made again, once there is room
abbrev pub blocks : ErrorKind → Bool
blocks WouldBlock = true
blocks kind = false

-- a read is to be made again, at once or later
abbrev pub passes : ErrorKind → Bool
passes Interrupted = true
passes kind = blocks kind

abbrev pub fails : (ErrorKind → Bool) → Result ℕ Error → Bool
fails again (Ok n) = false
fails again (Err e) = not (again (error_kind e))

-- a read was answered by an error that stays
abbrev pub reading_failed : Traffic → Bool
reading_failed t = list_any (λ call. fails passes call.1) t.reads

-- so was a write, or it took nothing
abbrev pub writing_failed : Traffic → Bool
writing_failed t = list_any (λ call. fails blocks call.1 || uses_none call.0 call.1) t.writes
