use Rattle.std.proofs.Common.{◌++◌, ◌+◌, List, ℕ, drop, ◌∙◌, sym, subst, arith}
use Rattle.sb_durable.specs.SegmentBlocks.{GoOn}
use Rattle.sb_durable.specs.Head.{IsOpened, IsUnbegun, head_bytes}
use Rattle.sb_durable.specs.Segment.{head_in}
use Rattle.sb_durable.specs.declared.segment.place.Place.{Place}
use Rattle.sb_durable.proofs.Heads.{has_begun}
use Rattle.sb_durable.proofs.Opened.{opened_end, opened_cut}
use Rattle.sb_durable.proofs.segment.opening.survey.Goals as goal

pub returns-in-Err-clause-cut : goal.returns-in-Err-clause-cut
returns-in-Err-clause-cut g c is clean head contents tail stands =
    c.in-Err.ensures.damaged is clean head stands.rest tail stands.fits (subst (λ (f : List ℕ). IsOpened (head_bytes head ++ stands.rest) (f ++ tail)) (sym c.len.ensures.seen) stands.begins)

pub returns-in-Err-clause-not_begun : goal.returns-in-Err-clause-not_begun
returns-in-Err-clause-not_begun g c is clean head contents stands =
    c.in-Err.ensures.not_begun is clean head stands.rest stands.fits (subst (λ (f : List ℕ). IsOpened (head_bytes head ++ stands.rest) f) (sym c.len.ensures.seen) stands.begins)

pub returns-in-Err-clause-unbegun : goal.returns-in-Err-clause-unbegun
returns-in-Err-clause-unbegun g c is clean = subst IsUnbegun c.len.ensures.seen (c.in-Err.ensures.unbegun is clean)

pub returns-in-Ok-find_end-clause-found : goal.returns-in-Ok-find_end-clause-found
returns-in-Ok-find_end-clause-found g c clean head contents stands =
    let file = g.D.Disk.seen c.args.disk.now in
    let there = c.in-Ok.ensures.found (c.find_end.ensures.clean clean) in
    let same = c.read_beginning.ensures.seen ∙ c.len.ensures.seen in
    let first : Place = record { at = 36 + c.len-2.result; chain = c.in-Ok.beginning.own } in
    let bears = c.in-Ok.ensures.bears in
    opened_end file there.0 _ first bears.1 (subst (λ (f : List ℕ). IsOpened (head_bytes (head_in c.in-Ok.beginning) ++ there.0) f) c.len.ensures.seen there.1) (omega (arith, c.len-2.ensures, c.in-Ok.beginning.settings.ok.0)) bears.0 head contents c.in-Ok-find_end.end stands
    (λ found goes. c.in-Ok-find_end.ensures.found clean found (subst (λ f. GoOn first.chain found (drop first.at f)) (sym same) goes))

pub returns-in-Err-find_end-clause-cut : goal.returns-in-Err-find_end-clause-cut
returns-in-Err-find_end-clause-cut g c is clean head contents tail stands =
    let file = g.D.Disk.seen c.args.disk.now in
    let there = c.in-Ok.ensures.found (c.find_end.ensures.clean clean) in
    let same = c.read_beginning.ensures.seen ∙ c.len.ensures.seen in
    let first : Place = record { at = 36 + c.len-2.result; chain = c.in-Ok.beginning.own } in
    let bears = c.in-Ok.ensures.bears in
    opened_cut file there.0 _ first bears.1 (subst (λ (f : List ℕ). IsOpened (head_bytes (head_in c.in-Ok.beginning) ++ there.0) f) c.len.ensures.seen there.1) (omega (arith, c.len-2.ensures, c.in-Ok.beginning.settings.ok.0)) bears.0 head contents tail stands
    (λ found goes. c.in-Err-find_end.ensures.damaged is clean found (subst (λ f. GoOn first.chain found (drop first.at f)) (sym same) goes))

pub returns-in-Ok-find_end-clause-begun : goal.returns-in-Ok-find_end-clause-begun
returns-in-Ok-find_end-clause-begun g c clean unbegun =
    let there = c.in-Ok.ensures.found (c.find_end.ensures.clean clean) in
    has_begun (head_in c.in-Ok.beginning) there.0 (g.D.Disk.seen c.args.disk.now) c.in-Ok.ensures.bears.1 (subst (λ (f : List ℕ). IsOpened (head_bytes (head_in c.in-Ok.beginning) ++ there.0) f) c.len.ensures.seen there.1) unbegun
