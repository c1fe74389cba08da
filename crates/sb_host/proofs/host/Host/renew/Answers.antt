use Rattle.std.proofs.Common.{◌≡◌, ℕ, List, sym, ap, ◌∙◌, subst}
use Rattle.std.specs.List.Sorted.{IsPermutation}
use Rattle.std.proofs.lemmas.List.Sorted.{IsPermutation-trans}
use Rattle.sb_tenant.specs.Tenant.{Tenant}
use Rattle.sb_desk.specs.declared.stub.Stub.{Stub}
use Rattle.sb_host.specs.declared.renewal.RenewError.{RenewError}
use Rattle.sb_host.specs.Finish.{gathered}
use Rattle.sb_host.specs.Renewal.{AreOf, IsUnrenewed}
use Rattle.sb_host.specs.Renewing.{AreHeld, KeepsRows, VolumeIsRenewed, VolumeStubs, held_by}
use Rattle.sb_host.proofs.Renewals.{all_too, refused_by}
use Rattle.sb_host.proofs.host.Host.renew.Goals as goal

pub returns-in-Ok-renew_volume-clause-ok : goal.returns-in-Ok-renew_volume-clause-ok
returns-in-Ok-renew_volume-clause-ok g c =
    let id = c.args.fresh.id in
    let stubs : List Stub = c.args.stubs.items in
    let at : c.index.result ≡ id = c.index.ensures.value ∙ c.id.ensures in
    let volume : VolumeStubs = c.in-Ok.gathered.0 in
    let made = c.in-Ok.ensures.ok in
    let held : AreHeld id stubs (held_by volume) = subst (λ (t : ℕ). AreHeld t stubs (held_by volume)) at made.2 in
    let old : Tenant = c.into_parts-old.result.0 in
    let next : VolumeStubs = c.into_parts-old.result.1 in
    let parts = c.into_parts-old.ensures in
    let opening : List Stub = c.give_up-opening.result.items in
    let renewed : VolumeIsRenewed g.N.Naming.bound volume c.args.fresh old next =
    subst (λ (p : Tenant × VolumeStubs). VolumeIsRenewed g.N.Naming.bound volume c.args.fresh p.0 p.1) (λ i. (sym parts.0 i, sym parts.1 i)) c.in-Ok-renew_volume.ensures.ok in
    let own : next.tenant ≡ id = renewed.5 ∙ made.0 ∙ at in (
      subst (λ (t : ℕ). AreOf t stubs) at made.1,
      (renewed.0, renewed.1, renewed.2, renewed.3, all_too (λ s. gathered id s stubs) (held_by volume) held old.trail renewed.4),
      subst (λ (t : ℕ). AreOf t opening) own c.give_up-opening.ensures.of,
      λ s small. ap (λ (t : ℕ). gathered t s opening) (sym own) ∙ c.give_up-opening.ensures.own s small ∙ renewed.6 s small,
    )

-- it couldn't be renewed
pub returns-in-Err-renew_volume-clause-err : goal.returns-in-Err-renew_volume-clause-err
returns-in-Err-renew_volume-clause-err g c =
    let id = c.args.fresh.id in
    let stubs : List Stub = c.args.stubs.items in
    let at : c.index.result ≡ id = c.index.ensures.value ∙ c.id.ensures in
    let volume : VolumeStubs = c.in-Ok.gathered.0 in
    let made = c.in-Ok.ensures.ok in
    let own : AreOf id stubs = subst (λ (t : ℕ). AreOf t stubs) at made.1 in
    let held : AreHeld id stubs (held_by volume) = subst (λ (t : ℕ). AreHeld t stubs (held_by volume)) at made.2 in
    let kept = c.in-Err-renew_volume.kept in
    subst (λ (e : RenewError). IsUnrenewed c.args.self.now g.N.Naming.bound stubs c.args.fresh e) (sym c.into_parts-error.ensures.0)
    (refused_by c.args.self.now g.N.Naming.bound stubs c.args.fresh own volume held kept.error c.in-Err-renew_volume.ensures.err)

pub returns-in-Err-renew_volume-clause-back : goal.returns-in-Err-renew_volume-clause-back
returns-in-Err-renew_volume-clause-back g c =
    let id = c.args.fresh.id in
    let stubs : List Stub = c.args.stubs.items in
    let at : c.index.result ≡ id = c.index.ensures.value ∙ c.id.ensures in
    let volume : VolumeStubs = c.in-Ok.gathered.0 in
    let made = c.in-Ok.ensures.ok in
    let held : AreHeld id stubs (held_by volume) = subst (λ (t : ℕ). AreHeld t stubs (held_by volume)) at made.2 in
    let parts = c.into_parts-error.ensures in
    let back : VolumeStubs = c.into_parts-error.result.2 in
    let left : List Stub = c.give_up-stubs.result.items in
    let keeps : KeepsRows volume back = subst (KeepsRows volume) (sym parts.2) c.in-Err-renew_volume.ensures.back.1 in
    let own : back.tenant ≡ id = keeps.0 ∙ made.0 ∙ at in (
      parts.1 ∙ c.in-Err-renew_volume.ensures.back.0,
      (
        λ all. subst (λ (t : ℕ). AreOf t left) own c.give_up-stubs.ensures.of,
        λ s small.
            subst (IsPermutation (gathered id s stubs)) (sym (ap (λ (t : ℕ). gathered t s left) (sym own) ∙ c.give_up-stubs.ensures.own s small))
            (IsPermutation-trans (gathered id s stubs) (held_by volume s) (held_by back s) (held s small) (keeps.1 s small)),
      ),
    )
