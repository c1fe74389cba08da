-- A renewal from its parts: what is seen of the tenant within its cell's lock, and the reasons for which there is none.
use Rattle.std.proofs.Common.{◌≡◌, ℕ, ◌<◌, length, true, List, arith, Some, None, Vec, Result, Ok, Err, refl, sym, ap, ◌∙◌, subst, inl, inr, ◌⊎◌}
use Rattle.std.specs.Prelude.{IfOk}
use Rattle.std.specs.Global.{Global}
use Rattle.std.specs.List.Sorted.{IsPermutation}
use Rattle.std.proofs.lemmas.Bool.{false≢true}
use Rattle.std.proofs.lemmas.List.Sorted.{IsPermutation-refl, IsPermutation-sym, IsPermutation-trans, length_permutation}
use Rattle.sb_tenant.specs.declared.bound.Bound.{Bound}
use Rattle.sb_tenant.specs.declared.reply.Entry.{Entry}
use Rattle.sb_tenant.specs.Tenant.{Tenant, state}
use Rattle.sb_tenant.specs.Trail.{state_of}
use Rattle.sb_tenant.specs.Volumes.{AreClosed}
use Rattle.sb_cell.specs.declared.renewal.RenewalError.{RenewalError}
use Rattle.sb_cell.specs.declared.renewal.RenewalError.TheVariants.{NoTenant, OtherBound, Open, NotAlike, TooMany}
use Rattle.sb_cell.specs.Renewal.{AreBothClosed, IsNotRenewed, IsOfCell, IsOpenSomewhere, Renews}
use Rattle.sb_cell.specs.Tenants.{Cell, IsTenantOf, hosts, states, trail_of, trails}
use Rattle.sb_tenant.specs.Limits.{session_count}
use Rattle.sb_desk.specs.declared.receipts.Receipt.{Receipt}
use Rattle.sb_desk.specs.declared.stub.Stub.{Stub}
use Rattle.sb_desk.specs.Receipts.{receipts_of}
use Rattle.sb_host.specs.declared.renewal.RenewError.{RenewError}
use Rattle.sb_host.specs.declared.renewal.RenewError.TheVariants.{OtherTenant, NotClosed, Refused, Missing, Mismatch, NoMemory}
use Rattle.sb_host.specs.Finish.{gathered, row_at}
use Rattle.sb_host.specs.Renewal.{AllAreEntries, AreEntries, AreOf, HasFewer, HasOthers, IsUnrenewed, IsUnrenewedBy}
use Rattle.sb_host.specs.Renewing.{AreHeld, DiffersFirst, IsCellOf, IsEarly, IsUngathered, KeepsRows, VolumeIsUnrenewed, VolumeStubs, held_by}

-- ---- the tenant of the fresh one's number

module _ (c : Cell) (own fresh : Tenant) (is : IsTenantOf c own) (same : own.id ≡ fresh.id) where
  pub trail_is : trails c fresh.id ≡ own.trail
  trail_is = ap (λ (t : ℕ). trails c t) (sym same) ∙ ap trail_of is.2

  state_is : states c fresh.id ≡ state own
  state_is = λ i. state_of (sym same i) (sym is.1 i) (trail_is i)

  hosted : hosts c fresh.id ≡ true
  hosted = ap (hosts c) (sym same) ∙ is.0

  -- nothing stands in its way before the receipts are compared
  pub ready : IsEarly own fresh None → IsOfCell c fresh × AreBothClosed c fresh
  ready h = ((hosted, h.0 ∙ is.1), (subst AreClosed (sym state_is) h.1, h.2))

  module _ (held : ℕ → List Receipt) where
    pub early : (why : RenewalError) → IsEarly own fresh (Some why) → IsUnrenewedBy c held fresh (Refused why)
    early OtherBound h = (hosted, λ e. h (e ∙ sym is.1))
    early Open h = ((hosted, h.0 ∙ is.1), by h.1)
      where
        by : IsOpenSomewhere (state own) ⊎ IsOpenSomewhere (state fresh) → IsOpenSomewhere (states c fresh.id) ⊎ IsOpenSomewhere (state fresh)
        by (inl one) = inl (subst IsOpenSomewhere (sym state_is) one)
        by (inr other) = inr other
    early NoTenant h = absurd h
    early NotAlike h = absurd h
    early TooMany h = absurd h

    pub differs : IsEarly own fresh None → (why : RenewError) → DiffersFirst own.trail held why → IsUnrenewedBy c held fresh why
    differs fine (Missing s) h = ((ready fine).0, (ready fine).1, subst (λ (trail : List Entry). HasFewer trail held s) (sym trail_is) h)
    differs fine (Mismatch s) h = ((ready fine).0, (ready fine).1, subst (λ (trail : List Entry). HasOthers trail held s) (sym trail_is) h)
    differs fine (Refused why) h = absurd h
    differs fine OtherTenant h = absurd h
    differs fine NotClosed h = absurd h
    differs fine NoMemory h = absurd h

    pub all_entries : AllAreEntries own.trail held → AllAreEntries (trails c fresh.id) held
    all_entries h = subst (λ (trail : List Entry). AllAreEntries trail held) (sym trail_is) h

-- ---- what the cell says

module _ (c : Cell) (held : ℕ → List Receipt) (fresh : Tenant) (all : AllAreEntries (trails c fresh.id) held) where
  pub late : (why : RenewalError) → IsNotRenewed c fresh why → IsUnrenewedBy c held fresh (Refused why)
  late NotAlike h = (h, all)
  late TooMany h = (h, all)
  late NoTenant h = h
  late OtherBound h = h
  late Open h = h

  -- those of the trail that has ended
  pub of_old : (old : Tenant) (c' : Cell) → Renews c old fresh c' → AllAreEntries old.trail held
  of_old old c' r = subst (λ (trail : List Entry). AllAreEntries trail held) (ap trail_of r.before) all

-- as a host tells it
pub refused : (bound : Bound) (stubs : VolumeStubs) (fresh : Tenant) (c : Cell) (why : RenewError) → IsCellOf bound c fresh.id → IsUnrenewedBy c (held_by stubs) fresh why → VolumeIsUnrenewed bound stubs fresh why
refused bound stubs fresh c OtherTenant is h = absurd h
refused bound stubs fresh c NotClosed is h = absurd h
refused bound stubs fresh c NoMemory is h = absurd h
refused bound stubs fresh c (Missing s) is h = (c, is.0, is.1, h)
refused bound stubs fresh c (Mismatch s) is h = (c, is.0, is.1, h)
refused bound stubs fresh c (Refused e) is h = (c, is.0, is.1, h)

-- ---- the receipts

module _ (stubs : VolumeStubs) (rows : List (Vec Receipt Global)) (has : (s : ℕ) → held_by stubs s ≡ row_at rows s) where
  pub held_is : held_by stubs ≡ row_at rows
  held_is = λ i s. has s i

  pub unrenewed_by : (c : Cell) (fresh : Tenant) (why : RenewError) → IsUnrenewedBy c (row_at rows) fresh why → IsUnrenewedBy c (held_by stubs) fresh why
  unrenewed_by c fresh why h = subst (λ (held : ℕ → List Receipt). IsUnrenewedBy c held fresh why) (sym held_is) h

  pub held_entries : (trail : List Entry) → AllAreEntries trail (row_at rows) → AllAreEntries trail (held_by stubs)
  held_entries trail h = subst (λ (held : ℕ → List Receipt). AllAreEntries trail held) (sym held_is) h

  -- given back as they stand in the rows afterwards
  pub keeps_rows : (back : VolumeStubs) (new : List (Vec Receipt Global)) → back.tenant ≡ stubs.tenant → ((s : ℕ) → held_by back s ≡ row_at new s) → ((s : ℕ) → IsPermutation (row_at rows s) (row_at new s)) → KeepsRows stubs back
  keeps_rows back new own after same = (own, λ s small. subst (λ (p : List Receipt × List Receipt). IsPermutation p.0 p.1) (λ i. (sym (has s) i, sym (after s) i)) (same s))

pub kept_rows : (stubs : VolumeStubs) → KeepsRows stubs stubs
kept_rows stubs = (refl, λ s small. IsPermutation-refl (held_by stubs s))

-- two facts of what a call gave make a third
pub both_ok : {A B : Type 0} (r : Result A B) (P Q R : A → Type 0) → ((a : A) → P a → Q a → R a) → IfOk r P → IfOk r Q → IfOk r R
both_ok (Ok a) P Q R f p q = f a p q
both_ok (Err e) P Q R f p q = tt

-- ---- by what stubs have

module _ (f g : ℕ → List Receipt) (same : (s : ℕ) → s < session_count → IsPermutation (f s) (g s)) where
  -- what one has against a trail, the other has
  pub entries_too : (trail : List Entry) (s : ℕ) → s < session_count → AreEntries trail g s → AreEntries trail f s
  entries_too trail s small h = IsPermutation-trans (f s) (g s) (receipts_of s 1 trail) (same s small) h

  entries_back : (trail : List Entry) (s : ℕ) → s < session_count → AreEntries trail f s → AreEntries trail g s
  entries_back trail s small h = IsPermutation-trans (g s) (f s) (receipts_of s 1 trail) (IsPermutation-sym (f s) (g s) (same s small)) h

  length_is : (s : ℕ) → s < session_count → length (f s) ≡ length (g s)
  length_is s small = sym (length_permutation (f s) (g s) (same s small))

  pub all_too : (trail : List Entry) → AllAreEntries trail g → AllAreEntries trail f
  all_too trail h = λ s small. entries_too trail s small (h s small)

  pub unrenewed_too : (c : Cell) (fresh : Tenant) (why : RenewError) → IsUnrenewedBy c g fresh why → IsUnrenewedBy c f fresh why
  unrenewed_too c fresh (Missing s) h =
      let own = h.2 in
      let few = own.2 in
      let long = length_is s own.0 in
      (h.0, h.1, (own.0, λ r below. entries_too (trails c fresh.id) r (omega (arith, below, own.0)) (own.1 r below), omega (arith, few, long)))
  unrenewed_too c fresh (Mismatch s) h =
      let own = h.2 in
      let many = own.2 in
      let long = length_is s own.0 in (
        h.0,
        h.1,
        (
          own.0,
          λ r below. entries_too (trails c fresh.id) r (omega (arith, below, own.0)) (own.1 r below),
          omega (arith, many, long),
          λ same_too. own.3 (entries_back (trails c fresh.id) s own.0 same_too),
        ),
      )
  unrenewed_too c fresh (Refused NotAlike) h = (h.0, all_too (trails c fresh.id) h.1)
  unrenewed_too c fresh (Refused TooMany) h = (h.0, all_too (trails c fresh.id) h.1)
  unrenewed_too c fresh (Refused NoTenant) h = h
  unrenewed_too c fresh (Refused OtherBound) h = h
  unrenewed_too c fresh (Refused Open) h = h
  unrenewed_too c fresh OtherTenant h = absurd h
  unrenewed_too c fresh NotClosed h = absurd h
  unrenewed_too c fresh NoMemory h = absurd h

-- as a host tells it, of the stubs whose receipts the volume had
module _ (tenants : ℕ) (bound : Bound) (stubs : List Stub) (fresh : Tenant) (own : AreOf fresh.id stubs) (volume : VolumeStubs) (held : AreHeld fresh.id stubs (held_by volume)) where
  told : (c : Cell) (why : RenewError) → IsUnrenewedBy c (held_by volume) fresh why → IsUnrenewedBy c (λ s. gathered fresh.id s stubs) fresh why
  told c why h = unrenewed_too (λ s. gathered fresh.id s stubs) (held_by volume) held c fresh why h

  pub refused_by : (why : RenewError) → VolumeIsUnrenewed bound volume fresh why → IsUnrenewed tenants bound stubs fresh why
  refused_by (Refused NoTenant) h = absurd (false≢true (sym h.3 ∙ h.1))
  refused_by (Refused OtherBound) h = (own, (h.0, h.1, h.2, told h.0 (Refused OtherBound) h.3))
  refused_by (Refused Open) h = (own, (h.0, h.1, h.2, told h.0 (Refused Open) h.3))
  refused_by (Refused NotAlike) h = (own, (h.0, h.1, h.2, told h.0 (Refused NotAlike) h.3))
  refused_by (Refused TooMany) h = (own, (h.0, h.1, h.2, told h.0 (Refused TooMany) h.3))
  refused_by (Missing s) h = (own, (h.0, h.1, h.2, told h.0 (Missing s) h.3))
  refused_by (Mismatch s) h = (own, (h.0, h.1, h.2, told h.0 (Mismatch s) h.3))
  refused_by OtherTenant h = absurd h
  refused_by NotClosed h = absurd h
  refused_by NoMemory h = h

-- where stubs made no volume
pub ungathered : (tenants : ℕ) (bound : Bound) (stubs : List Stub) (fresh : Tenant) (why : RenewError) → IsUngathered tenants fresh.id stubs why → IsUnrenewed tenants bound stubs fresh why
ungathered tenants bound stubs fresh (Refused NoTenant) h = h
ungathered tenants bound stubs fresh (Refused OtherBound) h = absurd h
ungathered tenants bound stubs fresh (Refused Open) h = absurd h
ungathered tenants bound stubs fresh (Refused NotAlike) h = absurd h
ungathered tenants bound stubs fresh (Refused TooMany) h = absurd h
ungathered tenants bound stubs fresh (Missing s) h = absurd h
ungathered tenants bound stubs fresh (Mismatch s) h = absurd h
ungathered tenants bound stubs fresh OtherTenant h = h
ungathered tenants bound stubs fresh NotClosed h = h
ungathered tenants bound stubs fresh NoMemory h = h
