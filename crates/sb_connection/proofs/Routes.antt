-- Where a connection goes, by its first line.
use Rattle.std.proofs.Common.{◌≡◌, inl, inr, ℕ, Bool, true, List, [], ◌∷◌, ◌++◌}
use Rattle.sb_wire.specs.Lines.{Completes, Piece, line}
use Rattle.sb_connection.specs.Conversation.{Hosted, named_by}
use Rattle.sb_connection.specs.Routes.{Begins, Routes, RoutesBy}
use Rattle.sb_connection.specs.declared.route.Destination.{Destination}
use Rattle.sb_connection.specs.declared.route.Destination.TheVariants.{Unknown, To, Away}

-- bytes that complete a line begin with it
pub begins_line : (bytes taken rest : List ℕ) (has_ended : Bool) (old new : Piece) → old ≡ line [] → bytes ≡ taken ++ rest → Completes old taken (new ∷ []) (line []) → Begins bytes has_ended new
begins_line bytes taken rest has_ended old new fresh split completes = inl (taken, rest, split, (completes.behind [] fresh).0)

-- all of them are the first line at the end
pub begins_last : (bytes : List ℕ) (has_ended : Bool) (old new : Piece) → old ≡ line [] → has_ended ≡ true → Completes old bytes [] new → Begins bytes has_ended new
begins_last bytes has_ended old new fresh ended completes = inr (ended, (completes.behind [] fresh).0, (completes.behind [] fresh).1)

pub routes_by : (hosted : Hosted) (bytes : List ℕ) (has_ended : Bool) (first : Piece) (r : Destination) → Begins bytes has_ended first → RoutesBy hosted (named_by hosted.keyed first) r → Routes hosted bytes has_ended r
routes_by hosted bytes has_ended first Unknown begins by = absurd by
routes_by hosted bytes has_ended first (To tenant) begins by = (first, begins, by)
routes_by hosted bytes has_ended first Away begins by = inl (first, begins, by)
