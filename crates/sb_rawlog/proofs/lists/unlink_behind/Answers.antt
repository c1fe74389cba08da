use Rattle.std.proofs.Common.{◌≡◌, ◌<◌, List, Option, Some, refl, sym, ap, ◌∙◌, subst}
use Rattle.sb_rawlog.specs.declared.node.Node.{Node}
use Rattle.sb_rawlog.specs.Links.{link, time_at, relinked, IsNode}
use Rattle.sb_rawlog.proofs.Chains.{member_node, leaves_later, starts, node_here, no_end, goes_on}
use Rattle.sb_rawlog.proofs.lists.unlink_behind.Goals as goal

pub link-after-requires : goal.link-after-requires
link-after-requires g c = let h = c.requires.within in member_node c.args.list c.args.arena.now h.0 _ h.1.0 c.args.place h.1.1.0 h.1.1.1

pub steps-init : goal.steps-init
steps-init g c = let h = c.requires.within in record {
  arena = refl;
  after = c.link-after.ensures;
  here = starts c.args.list c.args.arena.now (Some c.args.first) c.args.place h.0 h.1.0 c.args.first h.1.1.0 h.1.1.1 refl c.requires.behind;
}

pub link-requires : goal.link-requires
link-requires g c = subst (λ (cs : List (Option (Node g.row.T.Denot))). IsNode cs c.steps.at) (sym c.steps.invariant.arena) (node_here c.args.list c.args.arena.now (Some c.args.first) c.args.place c.steps.at c.steps.invariant.here)

pub returns-in_default : goal.returns-in_default
returns-in_default g c = absurd (no_end c.args.list c.args.arena.now (Some c.args.first) c.args.place c.steps.at c.steps.invariant.here (ap (λ (cs : List (Option (Node g.row.T.Denot))). link c.args.list cs c.steps.at) (sym c.steps.invariant.arena) ∙ sym c.link.ensures ∙ c.in_default.is))

pub set_link-requires : goal.set_link-requires
set_link-requires g c = subst (λ (cs : List (Option (Node g.row.T.Denot))). IsNode cs c.steps.at) (sym c.steps.invariant.arena) (node_here c.args.list c.args.arena.now (Some c.args.first) c.args.place c.steps.at c.steps.invariant.here)

pub returns-then-next-place : goal.returns-then-next-place
returns-then-next-place g c = λ top ps h m.
    let i = c.steps.invariant in
    let to : link c.args.list c.args.arena.now c.steps.at ≡ Some c.args.place = ap (λ (cs : List (Option (Node g.row.T.Denot))). link c.args.list cs c.steps.at) (sym i.arena) ∙ sym c.link.ensures ∙ c.in-Some.is ∙ ap Some c.if-next-place.true in
    leaves_later c.args.list c.args.arena.now (Some c.args.first) c.args.place c.set_link.new.arena c.steps.at top ps h i.here to
    (c.set_link.ensures.places ∙ (λ j. relinked c.args.list c.steps.at (i.after j) (i.arena j))) (c.set_link.ensures.link ∙ i.after)

pub steps-smaller : goal.steps-smaller
steps-smaller g c =
    let i = c.steps.invariant in
    let to : link c.args.list c.args.arena.now c.steps.at ≡ Some c.in-Some.next = ap (λ (cs : List (Option (Node g.row.T.Denot))). link c.args.list cs c.steps.at) (sym i.arena) ∙ sym c.link.ensures ∙ c.in-Some.is in
    subst (λ (cs : List (Option (Node g.row.T.Denot))). time_at cs c.in-Some.next < time_at cs c.steps.at) (sym i.arena)
    (goes_on c.args.list c.args.arena.now (Some c.args.first) c.args.place c.steps.at c.in-Some.next i.here to c.if-next-place.false).1

pub steps-preserved : goal.steps-preserved
steps-preserved g c =
    let i = c.steps.invariant in
    let to : link c.args.list c.args.arena.now c.steps.at ≡ Some c.in-Some.next = ap (λ (cs : List (Option (Node g.row.T.Denot))). link c.args.list cs c.steps.at) (sym i.arena) ∙ sym c.link.ensures ∙ c.in-Some.is in
    record {
      arena = i.arena;
      after = i.after;
      here = (goes_on c.args.list c.args.arena.now (Some c.args.first) c.args.place c.steps.at c.in-Some.next i.here to c.if-next-place.false).0;
    }
