-- one line more
use Rattle.std.proofs.Common.{◌≡◌, ◌<◌, ◌≤◌, ◌∙◌, ap, arith, length, refl, subst, sym}
use Rattle.sb_connection.specs.History.{History, pending_limit}
use Rattle.sb_connection.specs.ProtocolState.{Talking}
use Rattle.sb_connection.proofs.Admitting.{lets_then}
use Rattle.sb_connection.proofs.connection.Connection.advance.Goals as goal

-- nothing changes where nothing changed before
still : (first mid : History) (old new : Talking) → old.history ≡ mid → (pending_limit ≤ length old.history.pending → new ≡ old) → mid ≡ first → pending_limit ≤ length first.pending → new.history ≡ first
still first mid old new is full same many =
    let so_far : old.history ≡ first = is ∙ same in
    ap (λ (k : Talking). k.history) (full (subst (λ (h : History). pending_limit ≤ length h.pending) (sym so_far) many)) ∙ so_far

pub returns-then-not-step-clause-full : goal.returns-then-not-step-clause-full
returns-then-not-step-clause-full g c = λ many.
    still c.args.self.now c.loop-line.self-inside.protocol_state.history c.loop-line.self-inside.protocol_state c.step.new.self refl c.step.ensures.full (c.loop-line.invariant.full many) many

pub returns-then-not-step-clause-lets : goal.returns-then-not-step-clause-lets
returns-then-not-step-clause-lets g c =
    let so_far = c.loop-line.invariant in
    lets_then g.D.Doorkeeper.policy.admits c.args.self.now c.loop-line.self-inside.protocol_state.history c.step.new.self.history c.step.ensures.steps.streams so_far.lets (c.step.ensures.steps.lets so_far.holds)

pub returns-then-not-step-clause-stays : goal.returns-then-not-step-clause-stays
returns-then-not-step-clause-stays g c = λ before. c.step.ensures.steps.stays c.loop-line.invariant.holds (c.loop-line.invariant.stays before)

pub loop-line-preserved : goal.loop-line-preserved
loop-line-preserved g c =
    let so_far = c.loop-line.invariant in
    let same = c.step.ensures.steps.streams in
    let fewer : length c.step.new.self.history.waiting < length c.loop-line.self-inside.protocol_state.history.waiting = c.if-not-step.ensures.steps.goes so_far.holds refl in
    record {
      streams = (same.0 ∙ so_far.streams.0, same.1 ∙ so_far.streams.1, same.2 ∙ so_far.streams.2, same.3 ∙ so_far.streams.3, same.4 ∙ so_far.streams.4, same.5 ∙ so_far.streams.5);
      holds = c.step.ensures.steps.holds so_far.holds;
      lets = lets_then g.D.Doorkeeper.policy.admits c.args.self.now c.loop-line.self-inside.protocol_state.history c.step.new.self.history same so_far.lets (c.step.ensures.steps.lets so_far.holds);
      stays = λ before. c.step.ensures.steps.stays so_far.holds (so_far.stays before);
      goes = omega (arith, fewer, so_far.goes);
      full = λ many. still c.args.self.now c.loop-line.self-inside.protocol_state.history c.loop-line.self-inside.protocol_state c.step.new.self refl c.step.ensures.full (so_far.full many) many;
    }
