use Rattle.std.proofs.Common.{◌≡◌, [], ◌++◌, List, length, refl, sym, ap, ◌∙◌, subst, append_assoc, append-nil, length-append, arith}
use Rattle.std.specs.Vec.Iter.{into_iter_items}
use Rattle.std.proofs.lemmas.List.{nil_from_length}
use Rattle.sb_replay.specs.declared.pool.Done.{Done}
use Rattle.sb_replay.specs.declared.part.SessionPart.{SessionPart}
use Rattle.sb_replay.specs.declared.round.Waiting.{Waiting}
use Rattle.sb_replay.specs.Lists.{AllCut}
use Rattle.sb_replay.specs.Parts.{Gathers, calls}
use Rattle.sb_replay.proofs.Lists.{cuts_end, cuts_on}
use Rattle.sb_replay.proofs.Playing.{used_by}
use Rattle.sb_replay.proofs.round.gather.Goals as goal

pub loop-part-init : goal.loop-part-init
loop-part-init g c =
    let parts = c.into_iter-part-iterator.ensures.into_iter_gives.0 in
    let none = c.new-parts.ensures.items in (
      [],
      c.into_iter-answered.ensures.rest,
      λ ys zs h. subst (λ (l : List (SessionPart g.row.N.Denot)). AllCut Gathers c.args.waiting.items (l ++ ys) zs) (sym none)
          (subst (λ (l : List (Waiting g.row.N.Denot)). AllCut Gathers l ys zs) parts h),
      ap calls parts ∙ c.requires ∙ ap length (sym c.into_iter-answered.ensures.rest),
    )

pub gather_one-requires : goal.gather_one-requires
gather_one-requires g c =
    let count = c.loop-part.invariant.3 in
    let split = ap calls c.in-Some.ensures.steps.0 in
    omega arith

pub loop-part-preserved : goal.loop-part-preserved
loop-part-preserved g c =
    let at = c.loop-part in
    let one = c.in_ok-gather_one.ensures in
    let used = at.invariant.0 in
    let all : (used ++ one.1) ++ into_iter_items c.gather_one.new.done ≡ c.args.done.items =
    append_assoc used one.1 (into_iter_items c.gather_one.new.done) ∙ ap (λ (l : List (Done _)). used ++ l) (sym one.3) ∙ at.invariant.1 in (
      used ++ one.1,
      all,
      cuts_on Gathers c.args.waiting.items (into_iter_items at.part-iterator) (into_iter_items c.next.new.self) c.in-Some.part at.parts.items c.gather_one.new.parts.items one.0 used (used ++ one.1) one.1
          c.in-Some.ensures.steps.0 one.2 refl one.4 at.invariant.2,
      let count = at.invariant.3 in
          let split = ap calls c.in-Some.ensures.steps.0 in
          let own = used_by c.in-Some.part one.0 one.1 one.4 in
          let cut = ap length one.3 ∙ length-append one.1 (into_iter_items c.gather_one.new.done) in
          omega arith,
    )

pub returns : goal.returns
returns g c =
    let at = c.loop-part in
    let none = nil_from_length (into_iter_items at.part-iterator) (sym at.part-iterator.rest.ok.0 ∙ c.in-None.ensures.steps.0) in
    let over = nil_from_length (into_iter_items at.answered) (sym at.invariant.3 ∙ ap calls none) in
    let used : at.invariant.0 ≡ c.args.done.items = sym (append-nil at.invariant.0) ∙ ap (λ (l : List (Done _)). at.invariant.0 ++ l) (sym over) ∙ at.invariant.1 in
    subst (λ (l : List (Done _)). AllCut Gathers c.args.waiting.items at.parts.items l) used (cuts_end Gathers c.args.waiting.items (into_iter_items at.part-iterator) at.parts.items at.invariant.0 none at.invariant.2)
