-- Machine: the mailboxes of all workers.
use Rattle.std.specs.Prelude.{◌≡◌, ℕ, List, Some}
use Rattle.std.specs.List.{slice_get}
use Rattle.sb_server.specs.declared.mailbox.Mailbox.{Mailbox}

-- each stands at the place of its worker
abbrev pub ArePlaced : List Mailbox → Type 0
ArePlaced boxes = (i : ℕ) (b : Mailbox) → slice_get boxes i ≡ Some b → b.place ≡ i
