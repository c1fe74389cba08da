use Rattle.std.proofs.Common.{◌≡◌, ◌+◌, length}
use Rattle.sb_rawlog.specs.Records.{others}
use Rattle.sb_rawlog.specs.Sessions.{changes_by}
use Rattle.sb_rawlog.specs.Steps.{SpotsStay}
use Rattle.sb_rawlog.specs.Raw.{records_of, Stands}
use Rattle.sb_rawlog.proofs.raw.RawLogChangeLog.forget.Given as goal

-- only records of the session are gone
abbrev pub invariant-newest : goal.invariant-newest
invariant-newest l = record {
  others : others l.who (records_of l.self) ≡ others l.who (records_of l.fn.self);
  spare : l.self.room + length (records_of l.self) ≡ l.fn.self.room + length (records_of l.fn.self);
  clock : l.self.clock ≡ l.fn.self.clock;
  spots : SpotsStay (Stands l.fn.self) (Stands l.self) (records_of l.self);
}

abbrev pub decreases-newest : goal.decreases-newest
decreases-newest l = length (changes_by l.who (records_of l.self))
