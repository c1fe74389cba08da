-- Machine: what the fields of a session's receipts are seen as, and what holds of them.
use Rattle.std.specs.Prelude.{Bool, ℕ, ◌≡◌, ◌+◌, ◌<◌, ◌≤◌, true, List, [], ◌∷◌, ◌++◌, length, codes, Some, None, vec_capacity}
use Rattle.atomic_table.specs.Seated.{TableId}
use Rattle.sb_tenant.specs.declared.reply.Answer.{Answer}
use Rattle.sb_desk.specs.declared.receipts.Receipts.TheInside.{Inside}
use Rattle.sb_desk.specs.declared.receipts.Room.{Room}
use Rattle.sb_desk.specs.Kept.{HoldsSeat, IsListed, not_some, owed}
use Rattle.sb_desk.specs.Receipts.{Receipts, answer_by, receipt}
use Rattle.sb_desk.specs.Seats.{number_of}

module _ {N : Type 0} where
  abbrev pub seen : Inside N → Receipts
  seen r = record {
    tenant = r.tenant;
    session = r.session;
    list = r.list.items;
    ended = not_some r.opening;
    has_transaction = r.has_transaction;
    ready = r.ready;
    last = answer_by r.newest r.list.items;
  }

  -- the session is one of this host's; it has a part of the ledger for each receipt, its seat while it is open, and each place that is owed
  abbrev pub AreKept : TableId → ℕ → ℕ → Inside N → Type 0
  AreKept table tenants cells r =
      (r.tenant < tenants) × (r.session < 8) × (r.share.parts ≡ length r.list.items)
      × HoldsSeat table (number_of cells r.tenant r.session) r.opening
      × (length r.list.items + owed r.opening r.ready ≤ vec_capacity r.list) × IsListed r.newest r.list.items

-- ---- what is taken in

-- with one receipt more, of the line that was ready
abbrev pub noted : Receipts → List ℕ → Answer → Bool → Receipts
noted r line answer has = record r { list = r.list ++ receipt line answer ∷ []; has_transaction = has; ready = None; last = Some answer }

-- with an answer to the line that was ready, which is no receipt
abbrev pub answered : Receipts → Answer → Bool → Receipts
answered r answer has = record r { has_transaction = has; ready = None; last = Some answer }

-- without its seat
abbrev pub unseated : Receipts → Receipts
unseated r = record r { ended = true }

-- places for the receipts of an `open` and an `end`, and their lines
abbrev pub IsRoom : Room → Type 0
IsRoom room =
    (room.list.items ≡ []) × (2 ≤ vec_capacity room.list) × (room.first ≡ codes "open") × (room.end ≡ codes "end")
