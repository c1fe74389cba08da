use Rattle.std.proofs.Common.{◌≡◌, ◌++◌, ◌⊎◌, List, [], ℕ, sym, ap, ◌∙◌, subst, inl, inr, refl, append-nil, is_some}
use Rattle.std.proofs.lemmas.Result.{on_ok_weaker}
use Rattle.sb_wire.specs.Output.{text_behind, answer_text}
use Rattle.sb_wire.specs.Seen.{addressed_seen}
use Rattle.sb_durable.specs.Runs.{event_of}
use Rattle.sb_durable.proofs.run.answer_line.Goals as goal

pub returns-in-Ok : goal.returns-in-Ok
returns-in-Ok g c =
    let made = c.in-Ok.ensures.made in
    let text : List ℕ = answer_text (addressed_seen c.args.line) made.0 in
    let told : text_behind c.new.result c.in-Ok.given ≡ text = λ i. text_behind (c.new.ensures i) (made.3.0 i) in (
      text,
      (c.step.ensures.same, inl (made.0, record { told = refl; makes = made.1; adds = made.3.1; goes = ap is_some c.step.ensures.fault ∙ c.requires })),
      on_ok_weaker c.write_answer.result (λ is. is ∙ ap (λ (t : List ℕ). c.args.out.now.items ++ t) told) c.write_answer.ensures.ok,
      c.write_answer.ensures.err,
    )

pub returns-in-Err : goal.returns-in-Err
returns-in-Err g c =
    let made = c.in-Err.ensures.made in (
      [],
      (c.step.ensures.same, inr (record { step = (event_of (addressed_seen c.args.line), made.0); untold = refl; makes = made.1; may_add = made.2; stops = refl })),
      sym (append-nil c.args.out.now.items),
      tt,
    )
