-- Promise: with keys, a session is opened only to whoever brings a key of its tenant.
use Rattle.std.specs.Prelude.{◌≡◌, true, false, Some}
use Rattle.sb_wire.specs.Lines.{Piece}
use Rattle.sb_connection.specs.Conversation.{KeyHandshake, visitor_in}
use Rattle.sb_connection.specs.History.{History}
use Rattle.sb_connection.specs.Policies.{Admits}
use Rattle.sb_connection.specs.Routes.{Begins}

-- the first line of what came names the tenant, and brings a key that opens it
pub record BringsKey (admits : Admits) (h : History) : Type 0 where
  pub first : Piece
  pub begins : Begins h.received h.at_end first
  pub handshake : KeyHandshake
  pub is : visitor_in first ≡ Some handshake
  pub admitted : admits handshake.named.tenant handshake.key

-- where a session is opened
abbrev pub LetsIn : Admits → History → History → Type 0
LetsIn admits old new = new.hosted.keyed ≡ true → old.attached ≡ false → new.attached ≡ true → BringsKey admits new
