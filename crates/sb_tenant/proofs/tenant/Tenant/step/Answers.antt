use Rattle.std.proofs.lemmas.Bool.{and_parts}
use Rattle.std.proofs.Common.{◌∙◌, sym, subst, inl, codes, List, ℕ, arith}
use Rattle.sb_value.specs.Name.{same_name}
use Rattle.sb_tenant.specs.State.{session_at, is_open}
use Rattle.sb_tenant.specs.Tenant.{state}
use Rattle.sb_tenant.specs.Trail.{Extends}
use Rattle.sb_tenant.proofs.Tests.{same_text}
use Rattle.sb_tenant.proofs.tenant.Tenant.step.Goals as goal

-- the line is `end`
pub returns-then-ends-clause-ok : goal.returns-then-ends-clause-ok
returns-then-ends-clause-ok g c =
    let t = c.args.self.now in
    let line = c.args.sent.now.line.now in
    let is = same_text line (codes "end") (and_parts (is_open (session_at (state t) c.args.session)) (same_name line (codes "end")) (sym c.ends.ensures ∙ c.if-ends.true)).1 in (
      c.end.ensures.made.0,
      inl (subst (λ (l : List ℕ). Extends t.id t.bound t.trail c.args.session l c.end.result c.end.new.self.trail) (sym is) c.end.ensures.made.1),
    )

-- its clock stays
pub returns-then-ends-clause-in_step : goal.returns-then-ends-clause-in_step
returns-then-ends-clause-in_step g c =
    let s = c.end.ensures.in_step c.args.index.now c.requires.in_step in
    record { in_step = s.in_step; others = s.others; rises = (s.rises.0, omega (arith, s.rises.0, s.rises.1)); tenants = s.tenants }
