-- Machine: what a session is after a call that lends its answer.
use Rattle.std.specs.Prelude.{ℕ, ◌≡◌, List, [], Result, Ok, Err}
use mir.Syntax.{named}
use denote.RattleType.{RattleType}
use denote.Ref.{Bor}
use Rattle.sb_tenant.specs.declared.bound.Bound.{Bound}
use Rattle.atomic_table.specs.Seated.{TableId}
use Rattle.sb_tenant.specs.declared.reply.Answer.{Answer}
use Rattle.sb_desk.specs.declared.desk.CallError.{CallError}
use Rattle.sb_host.specs.contracts.session.Session.{the_row}
use Rattle.sb_desk.specs.Calls.{IsBehind, Session, after_call}

abbrev pub CallsTo : Session → List ℕ → Result (Bor Answer) CallError → Session → Type 0
CallsTo old line (Ok answer) new =
    (new ≡ after_call old line answer.now new.has_transaction) × IsBehind old.tenant old.session line answer.now new.has_transaction
CallsTo old line (Err e) new = new ≡ old

-- the type of a session, in a host of these names
abbrev pub session_of : RattleType → TableId → ℕ → ℕ → Bound → ℕ → ℕ → RattleType
session_of N table tenants cells bound name parts =
    the_row (record { mir = named 1; lft = [] }) N (record { table = table; tenants = tenants; cells = cells; bound = bound })
    (record { name = name; parts = parts })
