use Rattle.std.proofs.Common.{◌≡◌, ℕ, List, ◌+◌, ◌∷◌, [], drop, All, ◌∙◌, ap, suc, subst, sym, add-one, drop-cons}
use Rattle.std.proofs.lemmas.List.Elements.{All-cons}
use Rattle.sb_dump.specs.Dumps.{IsSendable}
use Rattle.sb_dump.specs.Playing.{AreSent}
use Rattle.sb_dump.proofs.Playing.{sent_both, still_hosts}
use Rattle.sb_dump.proofs.play.send_all.Goals as goal

-- the next line can be sent, and is
pub loop-line-preserved : goal.loop-line-preserved
loop-line-preserved c =
    let k = c.loop-line.line-index in
    let lines = c.args.lines.now in
    let line = c.line-item.result in
    let left : line ∷ drop (k + 1) lines ≡ drop k lines = rw (add-one k) (ap (λ (x : List ℕ). x ∷ drop (suc k) lines) c.line-item.is ∙ sym (drop-cons lines k line c.loop-line-test.true)) in
    let one = c.in_ok-send_line.ensures in
    let can : IsSendable line = subst IsSendable c.as_slice.ensures (c.is_sendable.ensures c.if-not-is_sendable.false) in
    record {
      hosted = still_hosts c.loop-line.cell c.send_line.new.cell c.args.id one.1 ∙ c.loop-line.invariant.hosted;
      sent = λ new rest.
          c.loop-line.invariant.sent new
          (subst (λ (ls : List (List ℕ)). AreSent c.args.id ls c.loop-line.cell new) left
          (sent_both c.loop-line.cell c.send_line.new.cell new c.args.id (line ∷ []) (drop (k + 1) lines) one rest));
      sendable = λ rest. c.loop-line.invariant.sendable (subst (All IsSendable) left (All-cons IsSendable line (drop (k + 1) lines) can rest));
    }
