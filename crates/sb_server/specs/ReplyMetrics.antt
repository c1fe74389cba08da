-- Machine: what is known of a newcomer by the bytes that came.
use Rattle.std.specs.Prelude.{◌≡◌, ⊤, ℕ, Bool, true, List, []}
use Rattle.sb_connection.specs.Conversation.{Hosted}
use Rattle.sb_connection.specs.Routes.{Routes}
use Rattle.sb_connection.specs.declared.route.Destination.{Destination}
use Rattle.sb_connection.specs.declared.route.Destination.TheVariants.{Unknown}
use Rattle.sb_server.specs.declared.pending_connection.HandshakeRead.{HandshakeRead}
use Rattle.sb_server.specs.declared.pending_connection.HandshakeRead.TheVariants as heard

-- it goes where its bytes say, whether or not more come
abbrev pub Goes : Hosted → List ℕ → Destination → Type 0
Goes hosted bytes Unknown = ⊤
Goes hosted bytes route = (ended : Bool) × Routes hosted bytes ended route

abbrev pub HeardBy : Hosted → List ℕ → Bool → HandshakeRead → Type 0
HeardBy hosted bytes is_cut (heard.Destination route) = Goes hosted bytes route
HeardBy hosted bytes is_cut heard.Left = bytes ≡ []
HeardBy hosted bytes is_cut (heard.Fault reason) = ⊤
HeardBy hosted bytes is_cut heard.NoMemory = is_cut ≡ true
