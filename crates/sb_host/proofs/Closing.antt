-- The closing check from its parts: the rows of receipts against the trails, and the sessions of other tenants.
use Rattle.std.proofs.Common.{◌≡◌, ℕ, ◌*◌, ◌/◌, ◌%◌, ◌<◌, ◌≤◌, List, [], ◌∷◌, length, Vec, Some, None, Result, Ok, Err, refl, sym, ap, ◌∙◌, subst, inl, inr, ◌⊎◌, arith}
use Rattle.std.specs.Global.{Global}
use Rattle.std.specs.List.Sorted.{IsPermutation}
use Rattle.std.proofs.lemmas.Bool.{cases_lt}
use Rattle.std.proofs.lemmas.List.Sorted.{IsPermutation-refl, length_permutation}
use Rattle.sb_tenant.specs.declared.bound.Bound.{Bound}
use Rattle.sb_tenant.specs.declared.reply.Entry.{Entry}
use Rattle.sb_tenant.specs.declared.volume.Volume.{Volume}
use Rattle.sb_tenant.specs.Limits.{session_count}
use Rattle.sb_desk.specs.declared.receipts.Receipt.{Receipt}
use Rattle.sb_desk.specs.Receipts.{receipts_of}
use Rattle.sb_host.specs.declared.comparing.ReceiptComparison.TheVariants.{Fewer, Different}
use Rattle.sb_host.specs.declared.finish.FinishError.{FinishError}
use Rattle.sb_host.specs.declared.finish.FinishError.TheVariants.{Missing, Mismatch, NoMemory}
use Rattle.sb_host.specs.declared.finish.Report.{Report}
use Rattle.sb_host.specs.declared.gathering.SessionPlace.{SessionPlace}
use Rattle.sb_desk.specs.declared.stub.Stub.{Stub}
use Rattle.sb_host.specs.Comparing.{Audits, FailsAt, IsFirstStray, RowAgrees, RowFails, due_at}
use Rattle.sb_host.specs.Finish.{AgreeBefore, Agrees, AreTrails, AreKeptAs, Finishes, IsMismatch, IsMissing, gathered, rank, row_at, wanted}
use Rattle.sb_host.specs.Rows.{row_past}

-- an audit against legal trails is the whole check
pub finishes : (bound : Bound) (tenants : ℕ) (stubs : List Stub) (trails : List (Vec Entry Global)) (volumes : List Volume) (result : Result Report FinishError)
    → AreTrails bound tenants trails → AreKeptAs bound trails volumes → Audits trails volumes stubs result → Finishes bound tenants stubs result
finishes bound tenants stubs trails volumes (Ok report) legal kept h =
    subst (λ (p : List (Vec Entry Global) × List Volume). AreTrails bound tenants p.0 × ((t s : ℕ) → s < session_count → Agrees t s stubs p.0) × AreKeptAs bound p.0 p.1)
    (λ i. (sym h.0 i, sym h.2 i)) (legal, h.1, kept)
finishes bound tenants stubs trails volumes (Err (Missing t s)) legal kept h = (trails, legal, h)
finishes bound tenants stubs trails volumes (Err (Mismatch t s)) legal kept h = (trails, legal, h)
finishes bound tenants stubs trails volumes (Err NoMemory) legal kept h = tt

no_length : (xs : List Receipt) → length xs ≡ 0 → xs ≡ []
no_length [] h = refl
no_length (x ∷ xs) h = absurd (omega arith)

module _ (tenants : ℕ) (stubs : List Stub) (trails : List (Vec Entry Global)) (volumes : List Volume) (long : length trails ≡ tenants) where
  no_entries : (t s : ℕ) → tenants ≤ t → wanted t s trails ≡ []
  no_entries t s far = ap (receipts_of s 1) (row_past trails t (omega (arith, long)))

  outside : (t s : ℕ) → tenants ≤ t → gathered t s stubs ≡ [] → Agrees t s stubs trails
  outside t s far none =
      subst (λ (p : List Receipt × List Receipt). IsPermutation p.0 p.1) (λ i. (sym none i, sym (no_entries t s far) i)) (IsPermutation-refl [])

  module _ (rows : List (Vec Receipt Global)) (count : length rows ≡ 8 * tenants) (dealt : (t s : ℕ) → t < tenants → s < 8 → row_at rows (rank t s) ≡ gathered t s stubs) where
    due : (t s : ℕ) → s < 8 → due_at trails (rank t s) ≡ wanted t s trails
    due t s small =
        let tenant : rank t s / session_count ≡ t = omega arith in
        let session : rank t s % session_count ≡ s = omega arith in
        (λ i. wanted (tenant i) (session i) trails)

    within : (t s : ℕ) → t < tenants → s < 8 → RowAgrees rows trails (rank t s) → Agrees t s stubs trails
    within t s few small h = subst (λ (p : List Receipt × List Receipt). IsPermutation p.0 p.1) (λ i. (dealt t s few small i, due t s small i)) h

    back : (t s : ℕ) → t < tenants → s < 8 → Agrees t s stubs trails → RowAgrees rows trails (rank t s)
    back t s few small h = subst (λ (p : List Receipt × List Receipt). IsPermutation p.0 p.1) (λ i. (sym (dealt t s few small) i, sym (due t s small) i)) h

    before : (t s : ℕ) → s < 8 → rank t s < length rows → ((j : ℕ) → j < rank t s → RowAgrees rows trails j) → AgreeBefore t s stubs trails
    before t s small below agree u r small' h = within u r (omega (arith, count)) small' (agree (rank u r) h)

    is_missing : (t s : ℕ) → s < 8 → FailsAt rows trails (rank t s) Fewer → IsMissing t s stubs trails
    is_missing t s small f =
        let few : t < tenants = omega (arith, count, f.1) in (
          before t s small f.1 f.0,
          omega (arith, f.2, ap length (dealt t s few small), ap length (due t s small)),
        )

    is_mismatch : (t s : ℕ) → s < 8 → FailsAt rows trails (rank t s) Different → IsMismatch t s stubs trails
    is_mismatch t s small f =
        let few : t < tenants = omega (arith, count, f.1) in (
          before t s small f.1 f.0,
          omega (arith, f.2.0, ap length (dealt t s few small), ap length (due t s small)),
          λ p. f.2.1 (back t s few small p),
        )

    pub refuses : (e : FinishError) → RowFails rows trails e → Audits trails volumes stubs (Err e)
    refuses (Missing t s) h = is_missing t s h.0 h.1
    refuses (Mismatch t s) h = is_mismatch t s h.0 h.1
    refuses NoMemory h = absurd h

    -- where all rows agree
    module _ (all : (k : ℕ) → k < length rows → RowAgrees rows trails k) where
      inside : (t s : ℕ) → t < tenants → s < 8 → Agrees t s stubs trails
      inside t s few small = within t s few small (all (rank t s) (omega (arith, count)))

      pub all_agree : IsFirstStray tenants stubs None → (t s : ℕ) → s < session_count → Agrees t s stubs trails
      all_agree none t s small = by (cases_lt t tenants)
        where
          by : (t < tenants) ⊎ (tenants ≤ t) → Agrees t s stubs trails
          by (inl few) = inside t s few small
          by (inr far) = outside t s far (none t s far)

      pub stray_mismatch : (p : SessionPlace) → IsFirstStray tenants stubs (Some p) → IsMismatch p.tenant p.session stubs trails
      stray_mismatch p h = (
        λ u r small earlier. by u r small earlier (cases_lt u tenants),
        omega (arith, ap length (no_entries p.tenant p.session h.0)),
        λ same. h.2 (no_length (gathered p.tenant p.session stubs) (sym (length_permutation (gathered p.tenant p.session stubs) (wanted p.tenant p.session trails) same) ∙ ap length (no_entries p.tenant p.session h.0))),
      )
        where
          by : (u r : ℕ) → r < session_count → rank u r < rank p.tenant p.session → (u < tenants) ⊎ (tenants ≤ u) → Agrees u r stubs trails
          by u r small earlier (inl few) = inside u r few small
          by u r small earlier (inr far) = outside u r far (h.3 u r far small earlier)
