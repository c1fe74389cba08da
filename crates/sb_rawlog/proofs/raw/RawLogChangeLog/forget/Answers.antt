use Rattle.std.proofs.Common.{List, sym, ap, ◌∙◌, subst}
use Rattle.sb_rawlog.specs.Raw.{records_of}
use Rattle.sb_rawlog.specs.Records.{Record, change_at}
use Rattle.sb_rawlog.specs.Sessions.{OthersStay}
use Rattle.sb_rawlog.proofs.Sessions.{others_kept, others-all, change_at-still}
use Rattle.sb_rawlog.proofs.raw.RawLogChangeLog.forget.Goals as goal

pub returns-in_default-clause-records : goal.returns-in_default-clause-records
returns-in_default-clause-records c = let e = c.in_default.ensures.taken in
    e.1 ∙ sym (others-all c.args.who (records_of c.newest.self) e.0) ∙ c.newest.invariant.others

pub returns-in_default-clause-others : goal.returns-in_default-clause-others
returns-in_default-clause-others c =
    subst (λ (l : List Record). OthersStay c.args.who (records_of c.args.self.now) l) (sym (returns-in_default-clause-records c)) (others_kept c.args.who (records_of c.args.self.now))

pub newest-preserved : goal.newest-preserved
newest-preserved c = let e = c.in-Some.ensures in let i = c.newest.invariant in record {
  others = e.all_others ∙ i.others;
  spare = e.spare ∙ i.spare;
  clock = e.clock ∙ i.clock;
  spots = λ s d st here. e.spots s d (i.spots s d st (change_at-still s.time e.taken.0.time (records_of c.newest.self) d (sym (ap (change_at s.time) e.taken.1) ∙ here))) here;
}
