use Rattle.std.proofs.Common.{Some, sym, ap, ◌∙◌, subst}
use Rattle.sb_rawlog.specs.Links.{IsInList, Leaves, LeavesList}
use Rattle.sb_rawlog.proofs.Chains.{member_node, no_head, leaves_first}
use Rattle.sb_rawlog.proofs.lists.unlink.Goals as goal

pub returns-in_default : goal.returns-in_default
returns-in_default g c = λ top ps h m. absurd (no_head c.args.list c.args.arena.now c.args.head c.args.place top ps h m c.in_default.is)

pub link-requires : goal.link-requires
link-requires g c = let h = c.requires in member_node c.args.list c.args.arena.now h.0 _ h.1.0 c.args.place h.1.1.0 h.1.1.1

pub returns-then-first-place : goal.returns-then-first-place
returns-then-first-place g c = λ top ps h m.
    subst (Leaves c.args.list c.args.place top ps c.args.arena.now c.args.arena.now) (sym c.link.ensures) (leaves_first c.args.list c.args.arena.now c.args.head c.args.place top ps h m (c.in-Some.is ∙ ap Some c.if-first-place.true))

pub unlink_behind-requires-clause-within : goal.unlink_behind-requires-clause-within
unlink_behind-requires-clause-within g c = subst (λ h. IsInList c.args.list c.args.arena.now h c.args.place) c.in-Some.is c.requires

pub returns : goal.returns
returns g c = subst (λ h. LeavesList c.args.list c.args.arena.now c.unlink_behind.new.arena h (Some c.in-Some.first) c.args.place) (sym c.in-Some.is) c.unlink_behind.ensures
