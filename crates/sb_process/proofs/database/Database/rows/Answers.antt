use Rattle.std.proofs.Common.{◌≡◌, List, Result, Err, inl, sym, subst}
use Rattle.sb_value.specs.declared.net.Transition.{Transition}
use Rattle.sb_value.specs.declared.refusal.Refusal.{Refusal}
use Rattle.sb_value.specs.declared.value.Value.{Value}
use Rattle.sb_process.specs.Consider.{select_within}
use Rattle.sb_process.specs.Represents.{who_in}
use Rattle.sb_process.specs.Request.{IsAnswer}
use Rattle.sb_process.specs.View.{seen_by}
use Rattle.sb_process.proofs.Effects.{select-charged, select-refused}
use Rattle.sb_process.proofs.database.Database.rows.Goals as goal

-- enough is left, and the rows are those of the query
pub returns-in-Ok : goal.returns-in-Ok
returns-in-Ok c =
    let d = c.args.self.now in
    let seen = λ (t : Transition). seen_by d.tables t (who_in d c.args.session) in
    subst (λ (t : Transition). IsAnswer (select_within (seen t) c.args.query.now d.left) c.rows_seen.result) c.no_transition-none.ensures
    (subst (λ (m : Result (List (List Value)) Refusal). IsAnswer m c.rows_seen.result) (sym (select-charged (seen c.no_transition-none.result) c.args.query.now d.left _ c.in-Ok.ensures)) c.rows_seen.ensures)

-- or too little
pub returns : goal.returns
returns c =
    let d = c.args.self.now in
    let seen = λ (t : Transition). seen_by d.tables t (who_in d c.args.session) in
    let result : Result (List (List Value)) Refusal = Err c.in-Err.refusal in
    inl (sym (subst (λ (t : Transition). select_within (seen t) c.args.query.now d.left ≡ result) c.no_transition-none.ensures (select-refused (seen c.no_transition-none.result) c.args.query.now d.left c.in-Err.refusal c.in-Err.ensures)))
