use Rattle.std.proofs.Common.{◌≡◌, length, List, ap, sym, ◌∙◌, subst}
use Rattle.std.proofs.lemmas.Result.{IfErr-weaker, on_ok_weaker}
use Rattle.sb_tenant.specs.declared.reply.Entry.{Entry}
use Rattle.sb_tenant.specs.State.{opening}
use Rattle.sb_tenant.specs.Tenant.{state}
use Rattle.sb_cell.specs.Tenants.{Cell, IsTenantOf}
use Rattle.sb_host.specs.declared.renewal.RenewError.{RenewError}
use Rattle.sb_host.specs.Finish.{row_at}
use Rattle.sb_host.specs.Renewal.{AllAreEntries, IsUnrenewedBy}
use Rattle.sb_host.specs.Renewing.{DiffersFirst}
use Rattle.sb_host.proofs.Counting.{count_reordered, entries_count}
use Rattle.sb_host.proofs.Renewals.{all_entries, differs, early, trail_is}
use Rattle.sb_host.proofs.renewal.compare_on.Goals as goal

-- by its bound or its sessions
pub returns-in-Some-early_refusal-clause-err : goal.returns-in-Some-early_refusal-clause-err
returns-in-Some-early_refusal-clause-err g c =
    let cell = c.args.desk.now in
    let own = c.in-Some.own.now in
    let fresh = c.args.fresh.now in
    let is : IsTenantOf cell own = subst (λ (x : Cell). IsTenantOf x own) c.cell.ensures.same c.in-Some.ensures.hosted in
    let same : own.id ≡ fresh.id = c.in-Some.ensures.number ∙ c.index.ensures.value ∙ c.id.ensures in
    early cell own fresh is same (row_at c.args.rows.now.items) c.in-Some-early_refusal.why c.in-Some-early_refusal.ensures

pub returns-clause-ok : goal.returns-clause-ok
returns-clause-ok g c =
    let cell = c.args.desk.now in
    let own = c.in-Some.own.now in
    let fresh = c.args.fresh.now in
    let rows = c.args.rows.now.items in
    let is : IsTenantOf cell own = subst (λ (x : Cell). IsTenantOf x own) c.cell.ensures.same c.in-Some.ensures.hosted in
    let same : own.id ≡ fresh.id = c.in-Some.ensures.number ∙ c.index.ensures.value ∙ c.id.ensures in
    on_ok_weaker c.check_rows.result (λ (h : AllAreEntries c.trail.result.now (row_at rows)). all_entries cell own fresh is same (row_at rows) (subst (λ (es : List Entry). AllAreEntries es (row_at rows)) c.trail.ensures.value h)) c.check_rows.ensures.ok

pub returns-clause-parts : goal.returns-clause-parts
returns-clause-parts g c =
    let cell = c.args.desk.now in
    let own = c.in-Some.own.now in
    let fresh = c.args.fresh.now in
    let rows = c.args.rows.now.items in
    let new = c.check_rows.new.rows.items in
    let is : IsTenantOf cell own = subst (λ (x : Cell). IsTenantOf x own) c.cell.ensures.same c.in-Some.ensures.hosted in
    let same : own.id ≡ fresh.id = c.in-Some.ensures.number ∙ c.index.ensures.value ∙ c.id.ensures in
    on_ok_weaker c.check_rows.result (λ (h : AllAreEntries c.trail.result.now (row_at rows)).
    sym (count_reordered rows new (sym c.check_rows.ensures.count) c.check_rows.ensures.same)
    ∙ entries_count own.id own.bound own.trail opening (state own) rows c.trail.ensures.legal c.requires.rows (subst (λ (es : List Entry). AllAreEntries es (row_at rows)) c.trail.ensures.value h)
    ∙ sym (ap length (trail_is cell own fresh is same))) c.check_rows.ensures.ok

pub returns-clause-err : goal.returns-clause-err
returns-clause-err g c =
    let cell = c.args.desk.now in
    let own = c.in-Some.own.now in
    let fresh = c.args.fresh.now in
    let rows = c.args.rows.now.items in
    let is : IsTenantOf cell own = subst (λ (x : Cell). IsTenantOf x own) c.cell.ensures.same c.in-Some.ensures.hosted in
    let same : own.id ≡ fresh.id = c.in-Some.ensures.number ∙ c.index.ensures.value ∙ c.id.ensures in
    IfErr-weaker c.check_rows.result (λ (why : RenewError). DiffersFirst c.trail.result.now (row_at rows) why) (λ (why : RenewError). IsUnrenewedBy cell (row_at rows) fresh why)
    (λ why h. differs cell own fresh is same (row_at rows) c.in_default-early_refusal.ensures why (subst (λ (es : List Entry). DiffersFirst es (row_at rows) why) c.trail.ensures.value h)) c.check_rows.ensures.err

pub returns-clause-count : goal.returns-clause-count
returns-clause-count g c =
    let count = c.check_rows.ensures.count in
    (count, sym (count_reordered c.args.rows.now.items c.check_rows.new.rows.items (sym count) c.check_rows.ensures.same))
