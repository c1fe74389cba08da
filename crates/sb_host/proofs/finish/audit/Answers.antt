use Rattle.std.proofs.Common.{ℕ, ◌<◌, List, length, Vec, Some, None, sym, ap, ◌∙◌, subst}
use Rattle.std.specs.Global.{Global}
use Rattle.sb_tenant.specs.declared.reply.Entry.{Entry}
use Rattle.sb_desk.specs.declared.stub.Stub.{Stub}
use Rattle.sb_host.specs.Comparing.{IsFirstStray, RowAgrees, RowFails}
use Rattle.sb_host.proofs.Closing.{all_agree, refuses, stray_mismatch}
use Rattle.sb_host.proofs.finish.audit.Goals as goal

pub returns-in-Err : goal.returns-in-Err
returns-in-Err c =
    let list = c.as_slice-2.ensures in
    refuses c.len-tenants.result c.args.stubs.items c.args.trails.items c.args.volumes.items (ap length (sym list.value) ∙ list.len ∙ sym c.len-tenants.ensures) c.in-Ok.rows.items c.in-Ok.ensures.0 c.in-Ok.ensures.1 c.in-Err.refusal
    (subst (λ (l : List (Vec Entry Global)). RowFails c.in-Ok.rows.items l c.in-Err.refusal) list.value c.in-Err.ensures.err)

-- all rows agree, and there is a stray
pub returns-in-Some : goal.returns-in-Some
returns-in-Some c =
    let list = c.as_slice-2.ensures in
    let rows = c.in-Ok.rows.items in
    let agree = subst (λ (l : List (Vec Entry Global)). (k : ℕ) → k < length rows → RowAgrees rows l k) list.value c.in_default-check_all.ensures.ok in
    let given = subst (λ (l : List Stub). IsFirstStray c.len-tenants.result l (Some c.in-Some.place)) c.as_slice.ensures.value c.in-Some.ensures in
    stray_mismatch c.len-tenants.result c.args.stubs.items c.args.trails.items c.args.volumes.items (ap length (sym list.value) ∙ list.len ∙ sym c.len-tenants.ensures) rows c.in-Ok.ensures.0 c.in-Ok.ensures.1 agree c.in-Some.place given

pub returns-in-None : goal.returns-in-None
returns-in-None c =
    let list = c.as_slice-2.ensures in
    let rows = c.in-Ok.rows.items in
    let agree = subst (λ (l : List (Vec Entry Global)). (k : ℕ) → k < length rows → RowAgrees rows l k) list.value c.in_default-check_all.ensures.ok in
    let given = subst (λ (l : List Stub). IsFirstStray c.len-tenants.result l None) c.as_slice.ensures.value c.in-None.ensures in
    (λ i. c.args.trails.items, all_agree c.len-tenants.result c.args.stubs.items c.args.trails.items c.args.volumes.items (ap length (sym list.value) ∙ list.len ∙ sym c.len-tenants.ensures) rows c.in-Ok.ensures.0 c.in-Ok.ensures.1 agree given, λ i. c.args.volumes.items)
