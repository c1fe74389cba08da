use Rattle.std.proofs.Common.{◌≡◌, ℕ, List, [], ◌∷◌, ◌++◌, ap, sym, ◌∙◌, subst, eqb-true}
use Rattle.std.specs.List.{All}
use Rattle.std.proofs.lemmas.List.Elements.{All-head, All-tail}
use Rattle.sb_tenant.specs.declared.bound.Bound.{Bound}
use Rattle.sb_cell.specs.Tenants.{Cell, IsTenantOf, states, trail_of, trails}
use Rattle.sb_dump.specs.Dumps.{played}
use Rattle.sb_dump.specs.Playing.{HostsOnly}
use Rattle.sb_tenant.specs.Tenant.{Tenant, state}
use Rattle.sb_tenant.specs.Trail.{state_of}
use Rattle.sb_dump.proofs.copy.made_by.Goals as goal

last_all : (P : Tenant → Type 0) (xs : List Tenant) (x : Tenant) → All P (xs ++ x ∷ []) → P x
last_all P [] x h = All-head P x [] h
last_all P (y ∷ ys) x h = last_all P ys x (All-tail P y (ys ++ x ∷ []) h)

module _ (cell : Cell) (id : ℕ) (bound : Bound) (own : Tenant) (alone : HostsOnly id bound cell) (is : IsTenantOf cell own) where
  id_is : own.id ≡ id
  id_is = eqb-true own.id id (sym (alone.0 own.id) ∙ is.0)

  state_is : state own ≡ states cell id
  state_is =
      let trail : trails cell own.id ≡ own.trail = ap trail_of is.2 in
      let here : state own ≡ states cell own.id = λ i. state_of own.id (is.1 i) (sym trail i) in
      here ∙ ap (states cell) id_is

pub returns-in-Some : goal.returns-in-Some
returns-in-Some c =
    let cell = c.in-Ok.cell in
    let own = c.in-Some.own in
    let is : IsTenantOf cell own = last_all (IsTenantOf cell) c.pop.new.self.items own (subst (All (IsTenantOf cell)) c.in-Some.ensures.items c.into_tenants.ensures.hosted) in
    let alone = c.in-Ok.ensures.alone in
    (id_is cell c.args.id c.args.bound own alone is, is.1 ∙ alone.1, state_is cell c.args.id c.args.bound own alone is ∙ c.in-Ok.ensures.played ∙ ap (λ (ls : List (List ℕ)). played c.args.id c.args.bound ls) c.lines.ensures)
