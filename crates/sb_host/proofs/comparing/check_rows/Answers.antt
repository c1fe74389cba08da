use Rattle.std.proofs.Common.{◌≡◌, ℕ, ◌<◌, ◌≤◌, List, length, below_more, refl, sym, ◌∙◌, subst, arith}
use Rattle.std.specs.List.Sorted.{IsPermutation}
use Rattle.std.proofs.lemmas.List.Sorted.{IsPermutation-refl, IsPermutation-trans}
use Rattle.sb_desk.specs.declared.receipts.Receipt.{Receipt}
use Rattle.sb_desk.specs.Receipts.{receipts_of}
use Rattle.sb_host.specs.Finish.{row_at}
use Rattle.sb_host.specs.Renewal.{AreEntries, HasFewer, HasOthers}
use Rattle.sb_host.proofs.comparing.check_rows.Goals as goal

pub loop-at-init : goal.loop-at-init
loop-at-init c = record {
  count = refl;
  left = λ k far. refl;
  same = λ k. IsPermutation-refl (row_at c.args.rows.now.items k);
  agree = λ k below. absurd (omega (arith, below));
}

pub loop-at-preserved : goal.loop-at-preserved
loop-at-preserved c =
    let inv = c.loop-at.invariant in
    let at = c.loop-at.at in
    let rows = c.args.rows.now.items in
    let trail = c.args.trail.now in
    let session : c.new-session.result ≡ at = c.new-session.ensures in
    let held : row_at c.loop-at.rows.items at ≡ row_at rows at = inv.left at (omega arith) in
    record {
      count = c.in-Equal.ensures.count ∙ inv.count;
      left = λ k far. c.in-Equal.ensures.others k (λ e. omega (arith, e, far)) ∙ inv.left k (omega (arith, far));
      same = λ k. IsPermutation-trans _ _ _ (inv.same k) (c.in-Equal.ensures.same k);
      agree = below_more (AreEntries trail (row_at rows)) at inv.agree (subst (λ (p : List Receipt × ℕ). IsPermutation p.0 (receipts_of p.1 1 trail)) (λ i. (held i, session i)) c.in-Equal.ensures.found);
    }

pub returns-in-Fewer-clause-err : goal.returns-in-Fewer-clause-err
returns-in-Fewer-clause-err c =
    let inv = c.loop-at.invariant in
    let at = c.loop-at.at in
    let rows = c.args.rows.now.items in
    let trail = c.args.trail.now in
    let session : c.new-session.result ≡ at = c.new-session.ensures in
    let held : row_at c.loop-at.rows.items at ≡ row_at rows at = inv.left at (omega arith) in
    let found = subst (λ (p : List Receipt × ℕ). length p.0 < length (receipts_of p.1 1 trail)) (λ i. (held i, session i)) c.in-Fewer.ensures.found in
    subst (λ (k : ℕ). HasFewer trail (row_at rows) k) (sym session) (omega arith, inv.agree, found)

pub returns-in-Different-clause-err : goal.returns-in-Different-clause-err
returns-in-Different-clause-err c =
    let inv = c.loop-at.invariant in
    let at = c.loop-at.at in
    let rows = c.args.rows.now.items in
    let trail = c.args.trail.now in
    let session : c.new-session.result ≡ at = c.new-session.ensures in
    let held : row_at c.loop-at.rows.items at ≡ row_at rows at = inv.left at (omega arith) in
    let found = subst (λ (p : List Receipt × ℕ). (length (receipts_of p.1 1 trail) ≤ length p.0) × (IsPermutation p.0 (receipts_of p.1 1 trail) → ⊥)) (λ i. (held i, session i)) c.in-Different.ensures.found in
    subst (λ (k : ℕ). HasOthers trail (row_at rows) k) (sym session) (omega arith, inv.agree, found.0, found.1)
