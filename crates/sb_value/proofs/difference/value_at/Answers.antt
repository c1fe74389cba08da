use Rattle.std.proofs.Common.{length, refl, sym}
use Rattle.std.proofs.lemmas.Bool.{ltb-true, ltb-false}
use Rattle.std.proofs.lemmas.Option.{slice_get_read, slice_get_past}
use Rattle.sb_value.proofs.difference.value_at.Goals as goal

pub returns-in-None : goal.returns-in-None
returns-in-None c = sym (slice_get_past c.args.row.now c.args.place (ltb-false _ _ (sym c.in-None.ensures.lookup.0)))

pub returns-in-Some : goal.returns-in-Some
returns-in-Some c = sym (slice_get_read c.args.row.now (length c.args.row.now) c.args.place c.in-Some.value.now refl (ltb-true _ _ (sym c.in-Some.ensures.lookup.0)) c.in-Some.ensures.lookup.1)
