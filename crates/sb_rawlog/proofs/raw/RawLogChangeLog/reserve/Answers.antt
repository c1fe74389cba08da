use Rattle.std.proofs.Common.{ap, ◌∙◌, subst, arith}
use Rattle.sb_rawlog.specs.Logs.{shown}
use Rattle.sb_rawlog.specs.Raw.{Raw, Stands, records_of}
use Rattle.sb_rawlog.specs.Steps.{SpotsStay}
use Rattle.sb_rawlog.proofs.Free.{none_in_use}
use Rattle.sb_rawlog.proofs.Taken.{kept_holds, kept_records, kept_spots}
use Rattle.sb_rawlog.proofs.raw.RawLogChangeLog.reserve.Goals as goal

pub add_places-requires-clause-fewer : goal.add_places-requires-clause-fewer
add_places-requires-clause-fewer c = omega (arith, c.self.invariant.counted)

pub add_places-requires-clause-empty : goal.add_places-requires-clause-empty
add_places-requires-clause-empty c = let inv = c.self.invariant in λ e. none_in_use inv.order c.self.inside.arena inv.holds.log.all (omega (arith, inv.counted, e))

pub invariant_of-self-2 : goal.invariant_of-self-2
invariant_of-self-2 c = let a = c.self.inside in let inv = c.self.invariant in let fit = c.add_places.ensures in record {
  order = inv.order;
  holds = kept_holds a.arena c.add_places.new.arena a.heads.ops.items a.heads.tuples.items a.heads.sessions.items inv.order a.clock a.room c.args.n fit.same inv.holds;
  free = fit.free;
  counted = omega (arith, inv.counted, fit.in_use);
  roomy = fit.roomy;
  spare = (let n = c.in_ok-add_places.ensures.ok in omega (arith, n, fit.free.within));
}

pub invariant_of-self : goal.invariant_of-self
invariant_of-self c = let a = c.self.inside in let inv = c.self.invariant in let fit = c.add_places.ensures in record {
  order = inv.order;
  holds = kept_holds a.arena c.add_places.new.arena a.heads.ops.items a.heads.tuples.items a.heads.sessions.items inv.order a.clock a.room a.room fit.same inv.holds;
  free = fit.free;
  counted = omega (arith, inv.counted, fit.in_use);
  roomy = fit.roomy;
  spare = (let n = c.in_err-add_places.ensures.err in omega (arith, n, inv.spare, inv.free.within, fit.free.within));
}

pub returns-in_err-add_places-clause-records : goal.returns-in_err-add_places-clause-records
returns-in_err-add_places-clause-records c = let a = c.self.inside in let inv = c.self.invariant in
    kept_records a.arena c.add_places.new.arena a.heads.ops.items a.heads.tuples.items a.heads.sessions.items inv.order a.clock a.room a.room c.add_places.ensures.same inv.holds ∙ ap records_of c.self.view_is

pub returns-in_err-add_places-clause-spots : goal.returns-in_err-add_places-clause-spots
returns-in_err-add_places-clause-spots c = let a = c.self.inside in let inv = c.self.invariant in
    subst (λ (v : Raw). let w : Raw = record { places = shown c.add_places.new.arena; clock = a.clock; room = a.room } in SpotsStay (Stands v) (Stands w) (records_of w)) c.self.view_is
    (kept_spots a.arena c.add_places.new.arena a.heads.ops.items a.heads.tuples.items a.heads.sessions.items inv.order a.clock a.room a.room c.add_places.ensures.same inv.holds)

pub returns-clause-records : goal.returns-clause-records
returns-clause-records c = let a = c.self.inside in let inv = c.self.invariant in
    kept_records a.arena c.add_places.new.arena a.heads.ops.items a.heads.tuples.items a.heads.sessions.items inv.order a.clock a.room c.args.n c.add_places.ensures.same inv.holds ∙ ap records_of c.self.view_is

pub returns-clause-spots : goal.returns-clause-spots
returns-clause-spots c = let a = c.self.inside in let inv = c.self.invariant in
    subst (λ (v : Raw). let w : Raw = record { places = shown c.add_places.new.arena; clock = a.clock; room = c.args.n } in SpotsStay (Stands v) (Stands w) (records_of w)) c.self.view_is
    (kept_spots a.arena c.add_places.new.arena a.heads.ops.items a.heads.tuples.items a.heads.sessions.items inv.order a.clock a.room c.args.n c.add_places.ensures.same inv.holds)
