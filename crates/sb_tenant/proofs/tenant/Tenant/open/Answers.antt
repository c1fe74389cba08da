use Rattle.std.proofs.Common.{◌≡◌, ◌≤◌, ◌∙◌, ◌++◌, ◌∷◌, [], List, ap, sym, subst, refl, length, codes, false, nat_le, Some, arith}
use Rattle.sb_process.specs.declared.database.Database.{Database}
use Rattle.sb_tenant.specs.declared.reply.Entry.{Entry}
use Rattle.sb_tenant.specs.declared.reply.Reply.TheVariants.{Ok}
use Rattle.sb_tenant.specs.declared.tenant.Tenant.TheInside.{Inside}
use Rattle.sb_tenant.specs.Limits.{entry_limit, trail_limit}
use Rattle.sb_tenant.specs.Remembered.{seen}
use Rattle.sb_tenant.specs.State.{session_at, is_open}
use Rattle.sb_tenant.specs.Tenant.{Tenant, IsSame, MakesStep, state}
use Rattle.sb_tenant.specs.Lending.{InStep}
use Rattle.sb_tenant.specs.Trail.{entry_of}
use Rattle.sb_tenant.proofs.Steps.{few_entries, phase_closed, still_remembered, opened_in_step, opened_legal, opened_made, opened_remembered}
use Rattle.sb_tenant.proofs.tenant.Tenant.open.Goals as goal

pub invariant_of-self : goal.invariant_of-self
invariant_of-self c =
    still_remembered c.self.inside _ c.self.invariant refl refl refl c.make_ready.ensures.items c.make_ready.ensures.len c.make_ready.ensures.capacity c.make_ready.ensures.ends

pub open-requires : goal.open-requires
open-requires c =
    let t = seen c.self.inside in
    let shut = subst (λ (v : Tenant). is_open (session_at (state v) c.args.session) ≡ false) (sym c.self.view_is) c.requires.closed in
    c.self.invariant.holds.1.phases c.args.session c.in_range.ensures ∙ phase_closed (session_at (state t) c.args.session) shut

pub put-requires-clause-few : goal.put-requires-clause-few
put-requires-clause-few c =
    subst (λ (es : List Entry). length es ≤ entry_limit) (sym c.make_ready.ensures.items) (few_entries (seen c.self.inside) c.self.invariant.legal)

shut : (c : goal.After-put) → is_open (session_at (state (seen c.self.inside)) c.args.session) ≡ false
shut c = subst (λ (v : Tenant). is_open (session_at (state v) c.args.session) ≡ false) (sym c.self.view_is) c.requires.closed

room : (c : goal.After-put) → nat_le trail_limit (state (seen c.self.inside)).steps ≡ false
room c = subst (λ (v : Tenant). nat_le trail_limit (state v).steps ≡ false) (sym c.self.view_is) c.requires.room

-- the fields after it
abbrev after : goal.After-put → Inside
after c = record c.self.inside { store = c.open.new.self; trail = c.put.new.trail; end_lines = c.make_ready.new.end_lines; known_lines = c.make_ready.new.known_lines; quota = c.count_entry.new.self }

same : (c : goal.After-put) → IsSame (seen c.self.inside) (seen (after c))
same c = (ap (λ (d : Database). d.id) c.open.ensures.database, refl, refl)

longer : (c : goal.After-put) → c.put.new.trail.items ≡ c.self.inside.trail.items ++ entry_of c.args.session (codes "open") Ok ∷ []
longer c = c.put.ensures.items ∙ (λ i. c.make_ready.ensures.items i ++ entry_of c.args.session (c.in_ok-line.ensures.line i) Ok ∷ [])

pub invariant_of-self-2 : goal.invariant_of-self-2
invariant_of-self-2 c =
    opened_remembered c.self.inside (after c) c.self.invariant (same c) c.args.session c.in_range.ensures (shut c) (room c) (longer c) c.open.ensures.holds c.open.ensures.database
    (omega (arith, c.in_ok-line.ensures.places, c.put.ensures.len, c.put.ensures.capacity)) c.in_ok-line.ensures.filled

pub returns-clause-ok : goal.returns-clause-ok
returns-clause-ok c = (
  subst (λ (v : Tenant). MakesStep v c.args.session (codes "open") (record { number = Some c.put.result; reply = Ok }) (seen (after c))) c.self.view_is
      (opened_made c.self.inside (after c) c.self.invariant (same c) c.args.session c.in_range.ensures (shut c) (room c) (longer c) c.put.result c.put.ensures.number),
  refl,
)

pub returns-clause-legal : goal.returns-clause-legal
returns-clause-legal c = opened_legal c.self.inside (after c) c.self.invariant (same c) c.args.session c.in_range.ensures (shut c) (room c) (longer c)

pub returns-clause-in_step : goal.returns-clause-in_step
returns-clause-in_step c = λ records clock index agrees.
    opened_in_step c.self.inside (after c) c.self.invariant (same c) c.args.session c.in_range.ensures (shut c) (room c) (longer c) c.open.ensures.opened records clock index
    (subst (λ (v : Tenant). InStep v records clock index) (sym c.self.view_is) agrees)
