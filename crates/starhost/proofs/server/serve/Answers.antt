use Rattle.std.proofs.Common.{◌≤◌, inl, inr, refl, sym, subst, arith, rules}
use Rattle.sb_tenant.specs.declared.bound.Bound.{Bound}
use Rattle.sb_wire.specs.declared.fault.StreamError.TheVariants as stream
use Rattle.sb_monitor.specs.declared.listener.ListenError.TheVariants as listen
use Rattle.starhost.proofs.Plains.{is_plain}
use Rattle.starhost.proofs.server.serve.Goals as goal

-- the numbers of a plan are within their ranges, as those of the words are
pub opened_by-requires-clause-tenants : goal.opened_by-requires-clause-tenants
opened_by-requires-clause-tenants g c =
    let plan = c.plan_of-plan.ensures in
    let run = c.requires.0.0 in
    (omega (arith, plan.1, run.0), omega (arith, plan.1, run.1), subst (λ (b : Bound). b.considerations ≤ 1000) (sym plan.3) run.3)

pub serve_host-requires-clause-bound : goal.serve_host-requires-clause-bound
serve_host-requires-clause-bound g c = λ κs outlive. subst (λ (b : Bound). b.considerations ≤ 1000) (sym c.plan_of-plan.ensures.3) c.requires.0.0.3

-- the host has the numbers of the plan, and the plan those of the words
pub returns-in-Ok-clause-ok : goal.returns-in-Ok-clause-ok
returns-in-Ok-clause-ok g c =
    rw (c.in-Ok.ensures.0, c.in-Ok.ensures.2, c.plan_of-plan.ensures.1, c.plan_of-plan.ensures.3) at c.serve_host.ensures.ok

-- words of numbers alone are those of such a server
pub returns-in-Ok-clause-err : goal.returns-in-Ok-clause-err
returns-in-Ok-clause-err g c = λ plain.
    rw (c.in-Ok.ensures.0, c.in-Ok.ensures.2, c.plan_of-plan.ensures.1, c.plan_of-plan.ensures.3, c.plan_of-plan.ensures.5.1)
    at (c.serve_host.ensures.err (is_plain c.args.words c.plan_of-plan.result c.plan_of-plan.ensures plain))

-- there was no memory, and nothing is written
pub returns-in-Err-clause-err : goal.returns-in-Err-clause-err
returns-in-Err-clause-err g c = λ plain. inl (listen.Stream stream.NoMemory, refl, inr (search rules, inr refl))
