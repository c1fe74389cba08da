use Rattle.std.proofs.Common.{◌<◌, ℕ, Option, nat_le, sym, ap, ◌∙◌, subst}
use Rattle.std.proofs.lemmas.Bool.{le-leb, and_right, and_from}
use Rattle.sb_rawlog.specs.Links.{link_of, link_in}
use Rattle.sb_rawlog.proofs.Chains.{node_within}
use Rattle.sb_rawlog.specs.Buckets.{list_of}
use Rattle.sb_rawlog.specs.Keys.{fits}
use Rattle.sb_rawlog.specs.Search.{selects, Hit}
use Rattle.sb_rawlog.proofs.Ahead.{Ahead, left, starts, ends, is_node, goes_on, finds, too_old}
use Rattle.sb_rawlog.proofs.search.search.Goals as goal

pub steps-init : goal.steps-init
steps-init c = starts (list_of c.args.key.now) (fits c.args.key.now) c.args.since c.args.arena.now c.args.head c.requires.0 c.requires.1.0 c.requires.1.1

pub get-requires : goal.get-requires
get-requires c =
    let w = list_of c.args.key.now in let p = fits c.args.key.now in
    node_within c.args.arena.now c.in-Some.place
    (is_node w p c.args.since c.args.arena.now c.args.head c.in-Some.place (subst (Ahead w (selects p c.args.since) c.args.arena.now c.args.head) c.in-Some.is c.steps.invariant))

pub returns-in_default-get : goal.returns-in_default-get
returns-in_default-get c =
    let w = list_of c.args.key.now in let p = fits c.args.key.now in
    let n = is_node w p c.args.since c.args.arena.now c.args.head c.in-Some.place (subst (Ahead w (selects p c.args.since) c.args.arena.now c.args.head) c.in-Some.is c.steps.invariant) in
    let a = n.1 in let b = c.in_default-get.ensures in absurd (cc (a, b))

pub returns-then-node-since : goal.returns-then-node-since
returns-then-node-since c =
    let w = list_of c.args.key.now in let p = fits c.args.key.now in
    too_old w p c.args.since c.args.arena.now c.args.head c.in-Some.place c.in-Some-get.node.now (sym c.in-Some-get.ensures) c.if-node-since.true
    (subst (Ahead w (selects p c.args.since) c.args.arena.now c.args.head) c.in-Some.is c.steps.invariant)

pub returns-then-fits : goal.returns-then-fits
returns-then-fits c = λ top ps h.
    let w = list_of c.args.key.now in let p = fits c.args.key.now in let n = c.in-Some-get.node.now in
    let good = sym c.fits.ensures ∙ c.if-fits.true in
    subst (Hit p c.args.since c.args.arena.now ps) (sym c.spot_for.ensures)
    (finds w p c.args.since c.args.arena.now c.args.head c.in-Some.place n (sym c.in-Some-get.ensures) (subst (Ahead w (selects p c.args.since) c.args.arena.now c.args.head) c.in-Some.is c.steps.invariant)
    good (and_from (nat_le c.args.since n.time) (p n.item) (le-leb c.args.since n.time c.if-node-since.false) good) top ps h)

-- the next place is further on in the list
onward : (c : goal.After-get-at) → let cs = c.args.arena.now in Ahead (list_of c.args.key.now) (selects (fits c.args.key.now) c.args.since) cs c.args.head c.get-at.result × (left cs c.get-at.result < left cs c.steps.at)
onward c =
    let w = list_of c.args.key.now in let p = fits c.args.key.now in let n = c.in-Some-get.node.now in
    let on = goes_on w p c.args.since c.args.arena.now c.args.head c.in-Some.place n (sym c.in-Some-get.ensures)
    (subst (Ahead w (selects p c.args.since) c.args.arena.now c.args.head) c.in-Some.is c.steps.invariant) (and_right (nat_le c.args.since n.time) (p n.item) (sym c.fits.ensures ∙ c.if-fits.false)) in
    let next = ap (link_in w) (sym c.in-Some-get.ensures) ∙ ap (λ l. link_of l n.links) (sym c.list-list.ensures) ∙ sym c.get-at.ensures in (
      subst (Ahead w (selects p c.args.since) c.args.arena.now c.args.head) next on.0,
      subst (λ (k : Option ℕ × Option ℕ). left c.args.arena.now k.0 < left c.args.arena.now k.1) (λ j. (next j, sym c.in-Some.is j)) on.1,
    )

pub steps-smaller : goal.steps-smaller
steps-smaller c = (onward c).1

pub steps-preserved : goal.steps-preserved
steps-preserved c = (onward c).0

pub returns : goal.returns
returns c =
    let w = list_of c.args.key.now in let p = fits c.args.key.now in
    ends w p c.args.since c.args.arena.now c.args.head (subst (Ahead w (selects p c.args.since) c.args.arena.now c.args.head) c.in_default.is c.steps.invariant)
