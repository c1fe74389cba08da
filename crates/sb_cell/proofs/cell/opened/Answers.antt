use Rattle.std.proofs.Common.{rules, ◌+◌, ◌*◌, ℕ, length, sym, ap, subst, ◌∙◌}
use Rattle.sb_tenant.specs.Lending.{HoldNothing}
use Rattle.sb_cell.specs.Hosting.{AreFresh, IsFresh}
use Rattle.sb_cell.proofs.Beginning.{fresh-one_more}
use Rattle.sb_cell.proofs.cell.opened.Goals as goal

-- the tenant of the next place
next_fresh : (c : goal.In_ok-push) → IsFresh (c.args.first + c.args.stride * length c.loop-place.made.items) c.args.bound c.new-in-loop-place.result
next_fresh c =
    let is_new = c.new-in-loop-place.ensures.is_new in
    subst (λ (k : ℕ). IsFresh k c.args.bound c.new-in-loop-place.result) (c.new.ensures ∙ ap (λ (k : ℕ). c.args.first + c.args.stride * k) (sym c.loop-place.invariant.1))
    (is_new, λ records clock index nothing. c.new-in-loop-place.ensures.in_step records clock index (subst (λ (i : ℕ). HoldNothing i records index) is_new.0 nothing))

pub loop-place-preserved : goal.loop-place-preserved
loop-place-preserved c = (
  subst (AreFresh c.args.first c.args.stride c.args.bound) (sym c.in_ok-push.ensures.items)
      (fresh-one_more c.args.first c.args.stride c.args.bound c.loop-place.made.items c.new-in-loop-place.result c.loop-place.invariant.0 (next_fresh c)),
  search rules,
)
