use Rattle.std.proofs.Common.{◌≡◌, ℕ, List, Option, is_some, Ok, ap, sym, subst, ◌∙◌}
use Rattle.sb_postgres.specs.Lines.{Lines}
use Rattle.sb_postgres.specs.Statements.{Leaves}
use Rattle.sb_postgres.specs.Answers.{Answered}
use Rattle.sb_frontend.specs.declared.form.Form.{Form}
use Rattle.sb_frontend.specs.Outputs.{Holds, Tells}
use Rattle.sb_frontend.specs.Plays.{GoesOn, PlaysAll, PlaysOne}
use Rattle.sb_frontend.proofs.Playing.{next-error, next-none, next-some, plays-next}
use Rattle.sb_frontend.proofs.play.Speaker.play_next.Goals as goal

pub returns-in-Ok-None-clause-played : goal.returns-in-Ok-None-clause-played
returns-in-Ok-None-clause-played g c = λ tag holds ls leaves.
    let is = next-none ls c.next_statement.new.self c.next_statement.result (c.next_statement.ensures.next ls leaves) (c.in-Ok-None.is ∙ ap (λ o. Ok o) c.in-Ok-None.field-0-is) in
    let f = c.finish.ensures tag holds in
    (f.0, f.2, subst (λ (l : Lines). PlaysAll tag l c.args.self.now f.0 c.finish.new.self) (sym is) f.1)

pub returns-in-Err-clause-played : goal.returns-in-Err-clause-played
returns-in-Err-clause-played g c = λ tag holds ls leaves.
    let ended = next-error ls c.next_statement.new.self c.next_statement.result c.in-Err.error (c.next_statement.ensures.next ls leaves) c.in-Err.is in
    let f = c.break_off.ensures tag holds ls ended in
    (f.0, f.2, f.1)

pub returns-clause-played : goal.returns-clause-played
returns-clause-played g c = λ tag holds ls leaves.
    let n = next-some ls c.next_statement.new.self c.next_statement.result c.in-Ok-Some.statement (c.next_statement.ensures.next ls leaves) (c.in-Ok-Some.is ∙ ap (λ o. Ok o) c.in-Ok-Some.field-0-is) in
    let one = subst (λ (form : Form). (ms : List Answered) × (t : Option (List ℕ)) × PlaysOne form c.in-Ok-Some.statement.line.items c.args.self.now ms t c.play_one.new.self × (c.play_one.result ≡ is_some t) × Tells ms t c.complete.new.self c.play_one.new.out) c.requires c.play_one.ensures in
    let p = plays-next tag c.in-Ok-Some.statement.line.items c.in-Ok-Some.statement.origins.items n.0 c.args.self.now c.play_one.new.self c.args.out.now c.complete.new.self c.play_one.new.out c.play_one.result (Leaves c.next_statement.new.self) holds n.1 c.complete.ensures.told one in
    (p.0, p.1, subst (λ (l : Lines). GoesOn tag l c.args.self.now p.0 c.play_one.result (λ next more. Holds next c.play_one.new.out × Leaves c.next_statement.new.self more) c.play_one.new.self) (sym n.2) p.2)
