use Rattle.std.proofs.Common.{◌≡◌, ◌≤◌, List, [], ℕ, sym, ◌∙◌, subst, refl, arith}
use Rattle.sb_durable.specs.Restart.{Remembers}
use Rattle.sb_durable.proofs.Records.{midway_first, midway_last, midway_then, remembers_all, remembers_new, same_all}
use Rattle.sb_durable.proofs.cell_restart.restart.Goals as goal

pub loop-tenant-init : goal.loop-tenant-init
loop-tenant-init g c =
    let p = c.in_ok-records.ensures in
    let cell = c.play_all.new.player in
    let kept : Remembers cell p.0 = remembers_all c.args.cell.now cell p.0 [] p.1 (remembers_new c.args.cell.now c.requires.new) in (
      p.0,
      midway_first c.args.cell.now cell p.0 (same_all c.args.cell.now cell p.0 p.1) kept,
      λ clean head there has are. let f = p.3 clean head there has are in (f.0, record { records = there; are = are; remembers = subst (Remembers cell) f.0 kept; has = f.1 }),
      refl,
    )

pub loop-tenant-preserved : goal.loop-tenant-preserved
loop-tenant-preserved g c =
    let i = c.loop-tenant.invariant in
    let e = c.in_default.ensures in (
      i.0,
      midway_then c.args.cell.now c.loop-tenant.cell c.end_sessions.new.cell i.0 c.loop-tenant.tenant i.1 e.ends,
      λ clean head there has are. let m = i.2 (c.end_sessions.ensures.clean clean) head there has are in (m.0, e.keeps head m.1),
      c.end_sessions.ensures.fault ∙ i.3,
    )

pub returns-clause-restarts : goal.returns-clause-restarts
returns-clause-restarts g c =
    let i = c.loop-tenant.invariant in
    (i.0, midway_last c.args.cell.now c.loop-tenant.cell i.0 c.loop-tenant.tenant c.args.tenants (omega (arith, c.loop-tenant-test.false)) c.requires.hosted i.1, i.2)
