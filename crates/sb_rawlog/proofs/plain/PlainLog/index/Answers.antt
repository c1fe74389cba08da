use Rattle.std.proofs.Common.{slice_get, sym, ap, ◌∙◌, subst, length, ◌<◌}
use Rattle.sb_rawlog.specs.Records.{change_at}
use Rattle.sb_rawlog.proofs.Rises.{before-index}
use Rattle.sb_rawlog.proofs.plain.PlainLog.index.Goals as goal

pub returns-clause-within : goal.returns-clause-within
returns-clause-within c = subst (λ l. c.index_of.result < length l) c.deref.ensures.value c.index_of.ensures.within

pub returns-clause-record : goal.returns-clause-record
returns-clause-record c = λ change there. ap (λ l. slice_get l c.index_of.result) (sym c.deref.ensures.value) ∙ c.index_of.ensures.record change (ap (change_at c.args.time) c.deref.ensures.value ∙ there)

pub returns-clause-front : goal.returns-clause-front
returns-clause-front c =
    let log = c.args.self.now in let r = c.requires in
    before-index log.items.items c.index_of.result (c.args.time, r.0) log.clock log.rising (returns-clause-record c r.0 r.1)
