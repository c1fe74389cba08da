use Rattle.std.proofs.Common.{[], ◌∷◌, refl, sym, subst}
use Rattle.std.specs.Vec.Iter.{into_iter_items}
use Rattle.std.proofs.lemmas.Result.{on_ok_weaker}
use Rattle.sb_replay.specs.Parts.{AddsPart, Gathers, GathersOne, TellsDone}
use Rattle.sb_replay.specs.declared.round.Waiting.{Waiting}
use Rattle.sb_replay.proofs.round.gather_one.Goals as goal

pub returns-in-Some : goal.returns-in-Some
returns-in-Some g c =
    let done = c.in-Some.answered in
    let sheet = c.in-Called.sheet in
    let adds : AddsPart (TellsDone sheet done) c.args.parts.now.items c.tell.new.parts.items
    → GathersOne c.args.waiting (into_iter_items c.args.done.now) c.args.parts.now.items (into_iter_items c.next.new.self) c.tell.new.parts.items =
    λ told. (
      told.0,
      done ∷ [],
      told.1,
      c.in-Some.ensures.items,
      subst (λ (w : Waiting g.row.N.Denot). Gathers w told.0 (done ∷ [])) (sym c.in-Called.is) (done, refl, told.2),
    ) in
    on_ok_weaker c.tell.result adds c.tell.ensures
