-- Promise: what a closed session leaves.
use Rattle.std.specs.Prelude.{ℕ, ◌≡◌, true, false, codes, [], ◌∷◌, ◌++◌}
use Rattle.sb_tenant.specs.declared.reply.Reply.TheVariants as told
use Rattle.sb_desk.specs.Receipts.{Receipts, numbered, receipt}
use Rattle.sb_desk.specs.declared.stub.Stub.{Stub}
use Rattle.sb_desk.specs.Calls.{Session}

-- the receipts, with that of the `end` unless the session had ended
abbrev pub LeavesStub : Session → Stub → Type 0
LeavesStub s stub =
    (stub.tenant ≡ s.tenant) × (stub.session ≡ s.session)
    × (s.ended ≡ true → stub.receipts.items ≡ s.list)
    × (s.ended ≡ false → (n : ℕ) × (stub.receipts.items ≡ s.list ++ receipt (codes "end") (numbered n told.Ok) ∷ []))

-- the same of the receipts themselves, with which their parts of the ledger go
abbrev pub LeavesReceipts : Session → Receipts → Type 0
LeavesReceipts s r =
    (r.tenant ≡ s.tenant) × (r.session ≡ s.session)
    × (s.ended ≡ true → r.list ≡ s.list)
    × (s.ended ≡ false → (n : ℕ) × (r.list ≡ s.list ++ receipt (codes "end") (numbered n told.Ok) ∷ []))
