use Rattle.std.proofs.Common.{◌≡◌, ◌∙◌, ap, map, subst, sym}
use Rattle.std.specs.Prelude.{IfSome, option_map}
use Rattle.sb_connection.specs.Callers.{IsOpened, caller_by, caller_in}
use Rattle.sb_connection.proofs.Callers.{called, opened_after}
use Rattle.sb_connection.proofs.caller.SessionCaller.step.Goals as goal

pub invariant_of-self : goal.invariant_of-self
invariant_of-self g c =
    let opened = subst (λ o. IfSome o (λ s. IsOpened (g.S.Calling.seen s))) c.in-Some.is c.self.invariant in
    opened_after c.step.result (g.S.Calling.seen c.in-Some.session) (g.S.Calling.seen c.step.new.self) c.args.line.now opened c.step.ensures.ok c.step.ensures.err

pub returns-in-Some-clause-ok : goal.returns-in-Some-clause-ok
returns-in-Some-clause-ok g c =
    let stays = map (λ l. (l.0.items, l.1)) c.self.inside.stays.items in
    let opened = subst (λ o. IfSome o (λ s. IsOpened (g.S.Calling.seen s))) c.in-Some.is c.self.invariant in
    let is : caller_in stays (g.S.Calling.seen c.in-Some.session) ≡ c.args.self.now = ap (λ o. caller_by stays (option_map g.S.Calling.seen o) c.self.inside.absence) (sym c.in-Some.is) ∙ c.self.view_is in
    called c.step.result stays (g.S.Calling.seen c.in-Some.session) (g.S.Calling.seen c.step.new.self) c.args.line.now c.args.self.now is opened c.step.ensures.ok
