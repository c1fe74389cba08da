use Rattle.std.proofs.Common.{◌∙◌, ap, subst, sym, List, ℕ}
use Rattle.std.specs.Prelude.{Contains, nat_eq}
use Rattle.std.specs.List.{list_any}
use Rattle.std.proofs.lemmas.List.Elements.{Contains-push}
use Rattle.sb_server.proofs.Noting.{contains_any}
use Rattle.sb_server.proofs.worker.Worker.note_renewal.Goals as goal

-- it was noted before
pub returns-then-contains-clause-noted : goal.returns-then-contains-clause-noted
returns-then-contains-clause-noted g c =
    λ is. contains_any c.args.tenant c.args.self.now.renewing.items
    (ap (λ (l : List ℕ). list_any (λ y. nat_eq y c.args.tenant) l) (sym c.deref.ensures.value) ∙ sym c.contains.ensures.value ∙ c.if-contains.true)

-- it is noted last
pub returns-in-Ok-clause-noted : goal.returns-in-Ok-clause-noted
returns-in-Ok-clause-noted g c =
    λ is. subst (λ (l : List ℕ). Contains l c.args.tenant) (sym c.in-Ok.ensures.items) (Contains-push c.args.self.now.renewing.items c.args.tenant)
