use Rattle.std.proofs.Common.{◌∙◌, option_and_then, sym, ap}
use Rattle.sb_catalog.specs.Rules.{numbered}
use Rattle.sb_process.proofs.Choosing.{can-sift, next-of, work-on}
use Rattle.sb_process.proofs.database.Database.next_rule.Goals as goal

-- ---- what is looked for

pub sift-set-requires-clause-past : goal.sift-set-requires-clause-past
sift-set-requires-clause-past g c = let w = c.requires.work in (w.3).transaction.tested

pub sift-set-requires-clause-can : goal.sift-set-requires-clause-can
sift-set-requires-clause-can g c = let w = c.requires.work in can-sift w.3 c.now-now.ensures.marks c.proper_lists_have_lives.ensures

-- ---- what is found

pub returns-in-Some-clause-next : goal.returns-in-Some-clause-next
returns-in-Some-clause-next g c = λ origin setting progress w.
    c.rule.ensures ∙ ap (option_and_then (numbered c.args.rules.now.catalog.now)) (sym c.in-Some.is)
    ∙ next-of w c.now-now.ensures.marks c.rules-rules.ensures.numbered c.sift-set.ensures.sifted c.requires.active c.chosen_of.result (c.chosen_of.ensures setting.pairs w.ordered.order)

pub returns-in-None-clause-next : goal.returns-in-None-clause-next
returns-in-None-clause-next g c = λ origin setting progress w.
    ap (option_and_then (numbered c.args.rules.now.catalog.now)) (sym c.in-None.is)
    ∙ next-of w c.now-now.ensures.marks c.rules-rules.ensures.numbered c.sift-set.ensures.sifted c.requires.active c.chosen_of.result (c.chosen_of.ensures setting.pairs w.ordered.order)

pub returns-in-Some-clause-work : goal.returns-in-Some-clause-work
returns-in-Some-clause-work g c = λ origin setting progress w. work-on w c.now-now.ensures.marks c.rules-rules.ensures.numbered c.sift-set.ensures.sifted c.sift-set.ensures.only_candidates

pub returns-in-None-clause-work : goal.returns-in-None-clause-work
returns-in-None-clause-work g c = λ origin setting progress w. work-on w c.now-now.ensures.marks c.rules-rules.ensures.numbered c.sift-set.ensures.sifted c.sift-set.ensures.only_candidates
