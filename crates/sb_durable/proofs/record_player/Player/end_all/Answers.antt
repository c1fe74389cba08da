use Rattle.std.proofs.Common.{◌++◌, ◌∷◌, ◌∙◌, [], List, map, option_map, sym, ap, subst, append_assoc}
use Rattle.std.specs.Prelude.{flat_map, option_to_list, Option}
use Rattle.std.specs.Vec.Iter.{into_iter_items}
use Rattle.std.proofs.lemmas.List.{map-append}
use Rattle.sb_desk.specs.Calls.{Session}
use Rattle.sb_desk.specs.declared.stub.Stub.{Stub}
use Rattle.sb_durable.specs.Replays.{AreClosed}
use Rattle.sb_durable.proofs.Calls.{closed_more}
use Rattle.sb_durable.proofs.record_player.Player.end_all.Goals as goal

pub loop-session-preserved : goal.loop-session-preserved
loop-session-preserved g c =
    let i = c.loop-session.invariant in
    let shows = option_map g.H.Session.Calling.seen in
    let before = c.loop-session.yielded in
    let own = c.in-Some.session in
    let left = option_to_list c.closed.result in (
      i.0 ++ left,
      subst (λ (l : List (Option Session)). AreClosed l (i.0 ++ left)) (sym (map-append shows before (own ∷ []))) (closed_more (map shows before) i.0 (shows own) c.closed.result i.1 c.closed.ensures),
      c.in_ok-add.ensures ∙ ap (λ (l : List Stub). l ++ left) i.2 ∙ append_assoc (flat_map (λ own. own.items) c.args.self.stubs.items) i.0 left,
      i.3 ∙ ap (λ l. before ++ l) c.in-Some.ensures.steps.0 ∙ sym (append_assoc before (own ∷ []) (into_iter_items c.next.new.self)),
    )
