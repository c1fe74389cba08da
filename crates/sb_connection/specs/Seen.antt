-- Machine: what a contract sees of a first line that brings a key.
use Rattle.sb_connection.specs.Conversation.{KeyHandshake as ItsVisitor}
use Rattle.sb_connection.specs.declared.first_line.KeyHandshake.{KeyHandshake}

abbrev pub visitor_seen : KeyHandshake → ItsVisitor
visitor_seen v = record { named = v.named; key = v.key.now }
