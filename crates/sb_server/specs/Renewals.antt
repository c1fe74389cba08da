-- Machine: what connections leave where tenants are renewed, and what a renewal takes.
use Rattle.std.specs.Prelude.{◌≡◌, ◌⊎◌, ◌+◌, ◌≤◌, ℕ, Bool, true, false, List, [], ◌∷◌, ◌++◌, length, flat_map, is_some, IsPermutation, None, Vec}
use Rattle.std.specs.Global.{Global}
use Rattle.std.specs.List.{All}
use Rattle.slab.specs.Slab.{Slab, get}
use Rattle.sb_desk.specs.declared.receipts.Receipt.{Receipt}
use Rattle.sb_desk.specs.declared.stub.Stub.{Stub}
use Rattle.sb_connection.specs.Exchanges.{IsClosed}
use Rattle.sb_connection.specs.History.{Converses, History}
use Rattle.sb_connection.specs.Policies.{Policy}
use Rattle.sb_connection.specs.Traffic.{Traffic}
use Rattle.sb_server.specs.Carried.{Carries}
use Rattle.sb_server.specs.Closed.{LeavesClosed}
use Rattle.sb_server.specs.Sessions.{session_count}

-- ---- what is left

-- The receipts that a session left in a volume of its tenant's trail, of a connection that goes on. Where the policy asks for keys, the first line of
-- what came brought one that it admits.
pub record LeavesVolume (p : Policy) (stub : Stub) : Type 0 where
  pub closed : IsClosed stub.receipts.items
  pub traffic : Traffic
  pub history : History
  pub is_cut : Bool
  pub carries : Carries traffic history is_cut
  pub conversation : Converses p.admits history None
  pub earlier : List (List Receipt)
  pub volume : history.left ≡ earlier ++ stub.receipts.items ∷ []
  pub keyed : history.hosted.keyed ≡ p.keyed

-- those of a connection that is closed; or, where tenants may be renewed, of one that goes on
abbrev pub IsLeft : Policy → Bool → Stub → Type 0
IsLeft p false stub = LeavesClosed p stub
IsLeft p true stub = LeavesClosed p stub ⊎ LeavesVolume p stub

-- those that a worker has at its end
abbrev pub AreLeft : Policy → Bool → Vec Stub Global → Type 0
AreLeft p may_renew stubs = All (IsLeft p may_renew) stubs.items

-- ---- what is taken

-- a tenant, and the receipts that its renewal took
abbrev pub Renewal : Type 0
Renewal = ℕ × List Stub

-- tenants may be renewed, it took them, and they are its own
abbrev pub IsDone : Bool → (ℕ → List Stub → Type 0) → Renewal → Type 0
IsDone may_renew takes r = (may_renew ≡ true) × takes r.0 r.1 × All (λ (stub : Stub). stub.tenant ≡ r.0) r.1

-- What a worker had, and what connections left with it since then: it has it still, or the renewal of its tenant took it. And no session is lost: a
-- connection has it still, or left its receipts.
pub record KeepsOrRenews {X : Type 0} (p : Policy) (may_renew : Bool) (takes : ℕ → List Stub → Type 0) (before after : Slab X) (has : X → Bool) (old new : List Stub) : Type 0 where
  pub left : List Stub
  pub are_left : All (IsLeft p may_renew) left
  pub renewals : List Renewal
  pub done : All (IsDone may_renew takes) renewals
  pub kept : IsPermutation (old ++ left) (new ++ flat_map (λ (r : Renewal). r.1) renewals)
  pub sessions : session_count before has ≤ session_count after has + length left

-- What a server hands out: what connections left with it, but for what the renewals of their tenants took.
pub record LeavesOrRenews (p : Policy) (may_renew : Bool) (takes : ℕ → List Stub → Type 0) (stubs : List Stub) : Type 0 where
  pub left : List Stub
  pub are_left : All (IsLeft p may_renew) left
  pub renewals : List Renewal
  pub done : All (IsDone may_renew takes) renewals
  pub kept : IsPermutation left (stubs ++ flat_map (λ (r : Renewal). r.1) renewals)

-- ---- connections

-- none is closed, and none comes
abbrev pub SameConnections : {X : Type 0} → Slab X → Slab X → Type 0
SameConnections before after = (key : ℕ) → is_some (get after key) ≡ is_some (get before key)
