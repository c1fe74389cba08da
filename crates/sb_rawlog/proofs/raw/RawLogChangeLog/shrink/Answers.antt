use Rattle.std.proofs.Common.{ap, ◌∙◌, subst, arith}
use Rattle.sb_rawlog.specs.Logs.{shown}
use Rattle.sb_rawlog.specs.Raw.{Raw, Stands, records_of}
use Rattle.sb_rawlog.specs.Steps.{SpotsStay}
use Rattle.sb_rawlog.proofs.Free.{none_in_use}
use Rattle.sb_rawlog.proofs.Taken.{kept_holds, kept_records, kept_spots}
use Rattle.sb_rawlog.proofs.raw.RawLogChangeLog.shrink.Goals as goal

pub spare_places-requires-clause-fewer : goal.spare_places-requires-clause-fewer
spare_places-requires-clause-fewer c = omega (arith, c.self.invariant.counted)

pub spare_places-requires-clause-empty : goal.spare_places-requires-clause-empty
spare_places-requires-clause-empty c = let inv = c.self.invariant in λ e. none_in_use inv.order c.self.inside.arena inv.holds.log.all (omega (arith, inv.counted, e))

pub invariant_of-self : goal.invariant_of-self
invariant_of-self c = let a = c.self.inside in let inv = c.self.invariant in let fit = c.spare_places.ensures in record {
  order = inv.order;
  holds = kept_holds a.arena c.spare_places.new.arena a.heads.ops.items a.heads.tuples.items a.heads.sessions.items inv.order a.clock a.room c.min-room.result fit.same inv.holds;
  free = fit.free;
  counted = omega (arith, inv.counted, fit.in_use);
  roomy = fit.roomy;
  spare = omega (arith, fit.spare, fit.free.within);
}

pub returns-clause-records : goal.returns-clause-records
returns-clause-records c = let a = c.self.inside in let inv = c.self.invariant in
    kept_records a.arena c.spare_places.new.arena a.heads.ops.items a.heads.tuples.items a.heads.sessions.items inv.order a.clock a.room c.min-room.result c.spare_places.ensures.same inv.holds ∙ ap records_of c.self.view_is

pub returns-clause-spots : goal.returns-clause-spots
returns-clause-spots c = let a = c.self.inside in let inv = c.self.invariant in
    subst (λ (v : Raw). let w : Raw = record { places = shown c.spare_places.new.arena; clock = a.clock; room = c.min-room.result } in SpotsStay (Stands v) (Stands w) (records_of w)) c.self.view_is
    (kept_spots a.arena c.spare_places.new.arena a.heads.ops.items a.heads.tuples.items a.heads.sessions.items inv.order a.clock a.room c.min-room.result c.spare_places.ensures.same inv.holds)
