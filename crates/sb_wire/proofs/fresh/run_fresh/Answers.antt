use Rattle.std.proofs.Common.{inl, inr, refl}
use Rattle.sb_wire.proofs.Openings.{fresh-ok}
use Rattle.std.proofs.KnownBytes.{Keeps-refl}
use Rattle.sb_wire.proofs.fresh.run_fresh.Goals as goal

-- no room for a cell
pub returns-in_default-clause-goes : goal.returns-in_default-clause-goes
returns-in_default-clause-goes g c = inl (refl, Keeps-refl (g.R.Read.remaining c.args.reader.now), Keeps-refl (g.W.Write.contents c.args.writer.now))

pub returns-in_default-clause-counts : goal.returns-in_default-clause-counts
returns-in_default-clause-counts g c = inl (refl, Keeps-refl (g.R.Read.remaining c.args.reader.now), Keeps-refl (g.W.Write.contents c.args.writer.now), refl)

pub returns-clause-counts : goal.returns-clause-counts
returns-clause-counts g c =
    let told = c.run_stream.ensures.counts in inr (c.in-Ok.cell, c.run_stream.new.cell, c.in-Ok.ensures, told.0, told.1, told.2)

pub returns-clause-goes : goal.returns-clause-goes
returns-clause-goes g c = let told = c.run_stream.ensures.goes in inr (c.in-Ok.cell, c.run_stream.new.cell, c.in-Ok.ensures, told.0, told.1)

pub returns-clause-ok : goal.returns-clause-ok
returns-clause-ok g c =
    fresh-ok c.args.tenants c.args.bound c.in-Ok.cell c.in-Ok.ensures c.run_stream.result (g.R.Read.remaining c.args.reader.now) (g.W.Write.contents c.args.writer.now) (g.W.Write.contents c.run_stream.new.writer) c.run_stream.new.cell c.run_stream.ensures.ok
