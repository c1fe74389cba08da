-- Machine: where a connection goes by the bytes that have come of it.
use Rattle.std.specs.Prelude.{◌≡◌, ◌⊎◌, ◌<◌, ◌≤◌, ℕ, Bool, true, List, [], ◌∷◌, ◌++◌, Option, Some, None, ⊤}
use Rattle.sb_tenant.specs.Limits.{session_count}
use Rattle.sb_wire.specs.Lines.{Piece, complete_pieces, open_line, piece_of, too_long}
use Rattle.sb_connection.specs.Conversation.{Hosted, named_by, tenant_at}
use Rattle.sb_connection.specs.declared.first_line.SessionName.{SessionName}
use Rattle.sb_connection.specs.declared.route.Destination.{Destination}
use Rattle.sb_connection.specs.declared.route.Destination.TheVariants.{Unknown, To, Away}

-- the first line of these bytes: the part that the first newline ends, or all of them where no more come
abbrev pub Begins : List ℕ → Bool → Piece → Type 0
Begins bytes has_ended first =
    ((taken rest : List ℕ) × (bytes ≡ taken ++ rest) × (complete_pieces taken ≡ first ∷ []))
    ⊎ ((has_ended ≡ true) × (complete_pieces bytes ≡ []) × (first ≡ piece_of (open_line bytes)))

-- this names a session of that tenant
abbrev pub Names : Hosted → Option SessionName → ℕ → Type 0
Names hosted named tenant =
    (n : SessionName) × (named ≡ Some n) × (tenant ≡ tenant_at hosted n.tenant) × (tenant < hosted.tenants) × (n.session < session_count)

-- it names no session of the host
abbrev pub NamesNone : Hosted → Option SessionName → Type 0
NamesNone hosted None = ⊤
NamesNone hosted (Some n) = (hosted.tenants ≤ tenant_at hosted n.tenant) ⊎ (session_count ≤ n.session)

-- by what the first line names
abbrev pub RoutesBy : Hosted → Option SessionName → Destination → Type 0
RoutesBy hosted named Unknown = ⊥
RoutesBy hosted named (To tenant) = Names hosted named tenant
RoutesBy hosted named Away = NamesNone hosted named

-- no line is complete yet; or the first one names a tenant's session; or none, or it is too long
abbrev pub Routes : Hosted → List ℕ → Bool → Destination → Type 0
Routes hosted bytes has_ended Unknown = complete_pieces bytes ≡ []
Routes hosted bytes has_ended (To tenant) = (first : Piece) × Begins bytes has_ended first × Names hosted (named_by hosted.keyed first) tenant
Routes hosted bytes has_ended Away =
    ((first : Piece) × Begins bytes has_ended first × NamesNone hosted (named_by hosted.keyed first)) ⊎ (piece_of (open_line bytes) ≡ too_long)
