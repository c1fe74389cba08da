use Rattle.std.proofs.Common.{◌≡◌, ◌++◌, ◌∷◌, [], ℕ, Bool, true, false, sym, ap, ◌∙◌, arith}
use Rattle.sb_cell.specs.Tenants.{states}
use Rattle.sb_tenant.specs.State.{is_open, session_at}
use Rattle.sb_durable.proofs.Records.{session_passed, session_taken}
use Rattle.sb_durable.proofs.cell_restart.open_sessions.Goals.{then-is_open+in_ok-push, else-is_open}
use Rattle.sb_durable.proofs.cell_restart.open_sessions.Goals as goal

pub loop-session-preserved : goal.loop-session-preserved
loop-session-preserved c =
    let p : ℕ → Bool = λ s. is_open (session_at (states c.args.cell.now c.args.tenant) s) in
    let k = c.loop-session.session in
    let here : p k ≡ c.is_open.result = ap p (sym c.new.ensures) ∙ sym c.is_open.ensures in
    elim c.if-is_open.branch [
      | then-is_open+in_ok-push w ↦
          let pushed : c.if-is_open.listed.items ≡ c.loop-session.listed.items ++ k ∷ [] = (λ i. (w.listed-is i).items) ∙ w.in_ok-push.ensures.items in
          pushed ∙ ap (λ l. l ++ k ∷ []) c.loop-session.invariant ∙ sym (session_taken p k (omega (arith, c.loop-session-test.true)) (here ∙ w.if-is_open.true))
      | else-is_open w ↦ (λ i. (w.listed-is i).items) ∙ c.loop-session.invariant ∙ sym (session_passed p k (omega (arith, c.loop-session-test.true)) (here ∙ w.if-is_open.false))
    ]
