use Rattle.std.proofs.Common.{◌≡◌, ◌<◌, List, ℕ, ◌∷◌, ◌++◌, [], take, slice_index, sym, ◌∙◌, subst, arith}
use Rattle.std.proofs.lemmas.List.{take_more}
use Rattle.sb_durable.proofs.Records.{EndsThese, ends_more}
use Rattle.sb_durable.proofs.cell_restart.end_sessions.Goals as goal

pub loop-session-preserved : goal.loop-session-preserved
loop-session-preserved g c =
    let i = c.loop-session.invariant in
    let xs = c.as_slice-session-items.result.now in
    let k = c.loop-session.session-index in (
      subst (λ (all : List ℕ). EndsThese c.args.tenant c.args.cell.now all c.end_session.new.cell) (sym (take_more xs k 0 c.loop-session-test.true))
          (ends_more c.args.tenant c.args.cell.now c.loop-session.cell c.end_session.new.cell (take k xs) (slice_index xs k) i.0 c.in_ok-end_session.ensures.ends),
      λ head tells. c.in_ok-end_session.ensures.keeps head (i.1 head tells),
      c.end_session.ensures.fault ∙ i.2,
      λ clean. i.3 (c.end_session.ensures.clean clean),
    )
