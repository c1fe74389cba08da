-- Promise: what a contract sees of a line's piece, of an addressed line and of a refusal of the wire.
use Rattle.std.specs.Prelude.{ℕ, List, [], ◌∷◌, codes, Option, Some, None}
use Rattle.sb_wire.specs.Lines.{line, too_long, Piece as ItsPiece, Addressed as ItsAddressed}
use Rattle.sb_wire.specs.declared.input.Piece.{Piece}
use Rattle.sb_wire.specs.declared.input.Piece.TheVariants.{Line, TooLong}
use Rattle.sb_wire.specs.declared.address.Addressed.{Addressed}
use Rattle.sb_wire.specs.declared.refusal.WireRefusal.{WireRefusal}
use Rattle.sb_wire.specs.declared.refusal.WireRefusal.TheVariants as refusal

-- a line by its bytes
abbrev pub piece_seen : Piece → ItsPiece
piece_seen (Line bytes) = line bytes.now
piece_seen TooLong = too_long

-- none, or one
abbrev pub pieces_seen : Option Piece → List ItsPiece
pieces_seen None = []
pieces_seen (Some piece) = piece_seen piece ∷ []

-- a line's numbers, and its command by its bytes
abbrev pub addressed_seen : Addressed → ItsAddressed
addressed_seen a = record { tenant = a.tenant; session = a.session; command = a.command.now }

-- the number of a refusal, its name, and the line that refuses
abbrev pub wire_told : WireRefusal → ℕ × List ℕ × List ℕ
wire_told refusal.TooLong = (11, codes "TooLong", codes "no 11 TooLong")
wire_told refusal.BadLine = (12, codes "BadLine", codes "no 12 BadLine")
wire_told refusal.NoTenant = (13, codes "NoTenant", codes "no 13 NoTenant")
wire_told refusal.NoSession = (14, codes "NoSession", codes "no 14 NoSession")
wire_told refusal.BadKey = (15, codes "BadKey", codes "no 15 BadKey")
wire_told refusal.NotBegun = (92, codes "NotBegun", codes "no 92 NotBegun")

abbrev pub wire_number : WireRefusal → ℕ
wire_number r = (wire_told r).0

abbrev pub wire_name : WireRefusal → List ℕ
wire_name r = (wire_told r).1

abbrev pub refusal_line : WireRefusal → List ℕ
refusal_line r = (wire_told r).2
