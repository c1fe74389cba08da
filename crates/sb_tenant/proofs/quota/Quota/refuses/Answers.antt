use Rattle.std.proofs.Common.{◌∙◌, ◌≤◌, ap, subst, sym, not, ◌&&◌, ℕ, Option, codes}
use Rattle.std.proofs.lemmas.Bool.{le-leb}
use Rattle.sb_value.specs.Name.{same_name}
use Rattle.sb_tenant.specs.Quota.{all_taken, is_used_up}
use Rattle.sb_tenant.proofs.Tests.{texts-same}
use Rattle.sb_tenant.proofs.quota.Quota.refuses.Goals as goal

pub returns-then-saturating_add-limit : goal.returns-then-saturating_add-limit
returns-then-saturating_add-limit c =
    let reached = subst (λ (n : ℕ). c.in-Some.limit ≤ n) c.saturating_add.ensures c.if-saturating_add-limit.true in
    let used = ap (λ (l : Option ℕ). is_used_up l (all_taken c.args.self.now c.args.used)) c.in-Some.is ∙ le-leb _ _ reached in
    c.ne.ensures ∙ ap not (texts-same c.args.line.now (codes "rollback")) ∙ ap (λ b. b && not (same_name c.args.line.now (codes "rollback"))) (sym used)
