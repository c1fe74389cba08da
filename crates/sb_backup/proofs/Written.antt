-- The scripts of all tenants, as the input leaves them.
use Rattle.std.proofs.Common.{◌≡◌, ◌≢◌, ◌∙◌, ◌<◌, ◌+◌, ◌⊎◌, ℕ, List, Option, Some, None, inl, inr, refl, sym, subst, arith}
use Rattle.std.proofs.Math.Nat.{eq-or-lt_of_le}
use Rattle.std.specs.Prelude.{IfSome}
use Rattle.sb_tenant.specs.declared.bound.Bound.{Bound}
use Rattle.sb_cell.specs.Tenants.{Cell}
use Rattle.sb_backup.specs.Dumps.{FirstUnwritten, HasScript, HaveScripts, RefusesDumps}
use Rattle.sb_backup.specs.declared.error.BackupError.{BackupError}
use Rattle.sb_backup.specs.declared.error.BackupError.TheVariants.{Stream}
use Rattle.sb_wire.specs.declared.fault.StreamError.{StreamError}
use Rattle.sb_backup.proofs.Dumped.{Leaves}

pub one_more : (bound : Bound) (k : ℕ) (cell : Cell) → ((t : ℕ) → t < k → HasScript bound cell t) → HasScript bound cell k → (t : ℕ) → t < k + 1 → HasScript bound cell t
one_more bound k cell so_far here t below = by (eq-or-lt_of_le (omega arith))
  where
    by : (t ≡ k) ⊎ (t < k) → HasScript bound cell t
    by (inl is) = subst (HasScript bound cell) (sym is) here
    by (inr before) = so_far t before

module _ (tenants : ℕ) (bound : Bound) (cell : Cell) where
  pub all_written : (input : Option (List ℕ)) → IfSome input (Leaves tenants bound cell) → ((t : ℕ) → t < tenants → HasScript bound cell t)
      → IfSome input (HaveScripts tenants bound)
  all_written None left each = tt
  all_written (Some bytes) left each =
      record { leaves = left.0; each = subst (λ (c : Cell). (t : ℕ) → t < tenants → HasScript bound c t) (sym left.1) each }

  pub some_unwritten : (input : Option (List ℕ)) (why : BackupError) → IfSome input (Leaves tenants bound cell) → FirstUnwritten tenants bound cell why
      → IfSome input (λ bytes. RefusesDumps tenants bound bytes why)
  some_unwritten None why left un = tt
  some_unwritten (Some bytes) why left un = inr (inr (left.0, subst (λ (c : Cell). FirstUnwritten tenants bound c why) (sym left.1) un))

pub stream_fault : (tenants : ℕ) (bound : Bound) (input : Option (List ℕ)) (e : StreamError) → IfSome input (λ bytes. RefusesDumps tenants bound bytes (Stream e))
stream_fault tenants bound None e = tt
stream_fault tenants bound (Some bytes) e = inr (inl (e, refl))

-- the first fault stays, and there is one from then on
pub still_none : {X : Type 0} (first next : Option BackupError) (why : BackupError) → ((first ≢ None) × (next ≡ first)) ⊎ ((first ≡ None) × (next ≡ Some why)) → next ≡ None → X
still_none first next why (inl (some, same)) none = absurd (some (sym same ∙ none))
still_none first next why (inr (missing, is)) none = absurd (ne_some why (sym none ∙ is))
  where
    ne_some : (w : BackupError) → None ≡ Some w → ⊥
    ne_some w e = subst IsThere (sym e) tt
      where
        IsThere : Option BackupError → Type 0
        IsThere None = ⊥
        IsThere (Some f) = Unit {0}

pub first_why : (P : BackupError → Type 0) (first next : Option BackupError) (why : BackupError) → IfSome first P → (first ≡ None → P why) → ((first ≢ None) × (next ≡ first)) ⊎ ((first ≡ None) × (next ≡ Some why)) → IfSome next P
first_why P first next why before here (inl (some, same)) = subst (λ (o : Option BackupError). IfSome o P) (sym same) before
first_why P first next why before here (inr (missing, is)) = subst (λ (o : Option BackupError). IfSome o P) (sym is) (here missing)
