-- Promise: what closes a session.
use Rattle.std.specs.Prelude.{ℕ, Bool, true, false, ◌&&◌, List, Option, Some}
use Rattle.sb_syntax.specs.Text.{command_of}
use Rattle.sb_syntax.specs.Tree.{Command, end_session}
use Rattle.sb_tenant.specs.declared.reply.Reply.{Reply}
use Rattle.sb_tenant.specs.declared.reply.Reply.TheVariants.{Ok}

abbrev pub is_end : Option Command → Bool
is_end (Some end_session) = true
is_end command = false

abbrev pub is_ok : Reply → Bool
is_ok Ok = true
is_ok reply = false

-- an `end` that is answered `ok` ends a session that is open
abbrev pub closes : List ℕ → Reply → Bool
closes line reply = is_end (command_of line) && is_ok reply
