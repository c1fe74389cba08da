use Rattle.std.proofs.Common.{◌≡◌, ◌⊎◌, ◌++◌, ◌∷◌, ℕ, List, [], sym, ap, ◌∙◌, subst, inl, inr, arith}
use Rattle.sb_durable.specs.Journal.{Keeps}
use Rattle.sb_durable.specs.Records.{Entry}
use Rattle.sb_wire.specs.Seen.{addressed_seen}
use Rattle.sb_durable.specs.Restart.{AreRecords}
use Rattle.sb_durable.specs.Runs.{event_of, records_of}
use Rattle.sb_durable.proofs.Crashes.{are_one}
use Rattle.sb_durable.proofs.Parts.{on_err}
use Rattle.sb_durable.proofs.run.Recording.record.Goals as goal

pub returns-in_default-try_from-clause-err : goal.returns-in_default-try_from-clause-err
returns-in_default-try_from-clause-err g c head records has file left = inl (c.is_kept.ensures head records [] has file left)

pub returns-then-text-gt-LINE_LIMIT-clause-err : goal.returns-then-text-gt-LINE_LIMIT-clause-err
returns-then-text-gt-LINE_LIMIT-clause-err g c head records has file left = inl (c.is_kept.ensures head records [] has file left)

pub returns-in_err-stage-clause-err : goal.returns-in_err-stage-clause-err
returns-in_err-stage-clause-err g c =
    on_err c.from_residual.result (λ head records has file left. inl (c.is_kept.ensures head records [] has file (subst (λ d. g.D.Disk.may_leave d file) c.stage.ensures.disk left)))

pub returns-clause-err : goal.returns-clause-err
returns-clause-err g c = on_err c.commit.result (λ head records has file left. elim (c.commit.ensures.any_moment head records _ (c.in_ok-stage.ensures.ok head records [] has) file left) [
  | inl before ↦ inl before
  | inr after ↦
      let entry : Entry = record { tenant = c.args.line.tenant; session = c.in-Ok.session; line = c.in-Some.text.now } in
      let is : records_of (event_of (addressed_seen c.args.line), c.args.given.now) ≡ entry ∷ [] = c.in-Some.ensures c.args.line.tenant c.args.line.session ∙ ap (λ s. record { tenant = c.args.line.tenant; session = s; line = c.in-Some.text.now } ∷ []) (sym c.in-Ok.ensures.1) in
      inr (subst AreRecords (sym is) (are_one entry (search) (omega (arith, c.in-Ok.ensures)) (omega (arith, c.if-text-gt-LINE_LIMIT.false))), subst (λ (rs : List Entry). Keeps head (records ++ rs) file) (sym is) after)
])
