use Rattle.std.proofs.Common.{◌≡◌, ◌∙◌, [], ◌∷◌, ◌++◌, List, ap, map, subst, sym}
use Rattle.std.specs.Prelude.{IfSome, option_map}
use Rattle.std.proofs.lemmas.List.{map-append}
use Rattle.sb_connection.specs.Callers.{Caller, IsOpened, Suspends, caller_between, caller_by, caller_in}
use Rattle.sb_connection.specs.declared.caller.Absence.{Absence}
use Rattle.sb_connection.proofs.Callers.{suspends}
use Rattle.sb_connection.proofs.caller.SessionCaller.suspend.Goals as goal

pub returns-clause-some : goal.returns-clause-some
returns-clause-some g c =
    let stays = map (λ l. (l.0.items, l.1)) c.self.inside.stays.items in
    let stub = c.close-stub.result in
    let ended = c.ended-ended.result in
    let s = g.S.Calling.seen c.in_ok-session.session in
    let there = c.in_ok-session.ensures.value in
    let opened = subst (λ o. IfSome o (λ x. IsOpened (g.S.Calling.seen x))) (sym there) c.self.invariant in
    let is : caller_in stays s ≡ c.args.self.now = ap (λ o. caller_by stays (option_map g.S.Calling.seen o) c.self.inside.absence) there ∙ c.self.view_is in
    let absence : Absence = record { tenant = stub.tenant; session = stub.session; ended = ended } in
    let gone : caller_by (map (λ l. (l.0.items, l.1)) c.and-self-inside.result.items) (option_map g.S.Calling.seen c.take.new.self) absence
    ≡ caller_between (stays ++ (stub.receipts.items, ended) ∷ []) stub.tenant stub.session ended =
    ap (λ o. caller_by (map (λ l. (l.0.items, l.1)) c.and-self-inside.result.items) (option_map g.S.Calling.seen o) absence) c.take.ensures.after
    ∙ ap (λ items. caller_between (map (λ l. (l.0.items, l.1)) items) stub.tenant stub.session ended) c.and-self-inside.ensures
    ∙ ap (λ l. caller_between l stub.tenant stub.session ended) (map-append (λ l. (l.0.items, l.1)) c.self.inside.stays.items ((stub.receipts, ended) ∷ [])) in
    subst (λ (x : Caller). Suspends c.args.self.now stub x) (sym gone)
    (suspends stays s stub opened c.close-stub.ensures c.args.self.now ended is (sym c.has_transaction.ensures.is ∙ c.if-has_transaction.false) c.ended-ended.ensures)
