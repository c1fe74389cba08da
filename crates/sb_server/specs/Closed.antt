-- Machine: what connections leave.
use Rattle.std.specs.Prelude.{◌≡◌, Bool, List, ◌++◌, IfSome, Option, Some, Vec}
use Rattle.std.specs.Global.{Global}
use Rattle.std.specs.List.{All}
use Rattle.sb_desk.specs.declared.stub.Stub.{Stub}
use Rattle.sb_connection.specs.Exchanges.{IsClosed}
use Rattle.sb_connection.specs.History.{Converses, History}
use Rattle.sb_connection.specs.Policies.{Policy}
use Rattle.sb_connection.specs.Traffic.{Traffic}
use Rattle.sb_server.specs.Carried.{Carries}

-- what a connection with this history over a stream with this traffic leaves: the receipts of its session, which was closed, if it had one
abbrev pub Leaves : Policy → Traffic → History → Bool → Option Stub → Type 0
Leaves p t h is_cut left =
    Carries t h is_cut × Converses p.admits h left × IfSome left (λ stub. IsClosed stub.receipts.items) × (h.hosted.keyed ≡ p.keyed)

-- The receipts of a session that was closed, of a connection over a stream. Where the policy asks for keys, the first line of what came brought one
-- that it admits.
pub record LeavesClosed (p : Policy) (stub : Stub) : Type 0 where
  pub closed : IsClosed stub.receipts.items
  pub traffic : Traffic
  pub history : History
  pub is_cut : Bool
  pub carries : Carries traffic history is_cut
  pub conversation : Converses p.admits history (Some stub)
  pub keyed : history.hosted.keyed ≡ p.keyed

-- those of all sessions of a worker
abbrev pub LeaveClosed : Policy → Vec Stub Global → Type 0
LeaveClosed p stubs = All (LeavesClosed p) stubs.items

-- nothing is lost of what a worker had, and what comes behind it is left by connections
abbrev pub GainsClosed : Policy → List Stub → List Stub → Type 0
GainsClosed p old new = (more : List Stub) × (new ≡ old ++ more) × All (LeavesClosed p) more
