use Rattle.std.proofs.Common.{◌∙◌, ap, subst, cond, nat_eq, ◌&&◌, ℕ}
use Rattle.sb_rawlog.specs.Records.{Rising}
use Rattle.sb_process.specs.Transactions.{mark_of, tested_of}
use Rattle.sb_process.proofs.MarkLaws.{represents-marked}
use Rattle.sb_process.proofs.database.Database.mark_now.Goals as goal

pub returns-clause-marked : goal.returns-clause-marked
returns-clause-marked g c = λ origin setting progress r.
    let d = c.args.self.now in
    let records = g.L.ChangeLog.records c.args.log.now in
    let clock = g.L.ChangeLog.clock c.args.log.now in
    represents-marked origin d c.args.chosen.now.session records clock setting progress r (subst (Rising 0 records) c.now.ensures.clock c.now.ensures.rising) c.args.chosen.now.rule.now c.set_mark.new.self
    (λ s x. c.in_ok-set_mark.ensures.marks s x ∙ ap (λ (t : ℕ). cond ((nat_eq s c.args.chosen.now.session) && (nat_eq x c.args.chosen.now.rule.now.id)) t (mark_of d.transactions s x)) c.now.ensures.clock)
    (λ s x. c.in_ok-set_mark.ensures.tested s x ∙ ap (λ (t : ℕ). cond ((nat_eq s c.args.chosen.now.session) && (nat_eq x c.args.chosen.now.rule.now.id)) t (tested_of d.transactions s x)) c.now.ensures.clock) c.set_mark.ensures.candidates
