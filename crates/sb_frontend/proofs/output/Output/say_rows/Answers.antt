use Rattle.std.proofs.Common.{◌≤◌, length, arith, refl}
use Rattle.sb_frontend.proofs.RowReads.{rows-said}
use Rattle.sb_frontend.proofs.output.Output.say_rows.Goals as goal

pub returns-in-Ok : goal.returns-in-Ok
returns-in-Ok c =
    let low : c.self.inside.sent ≤ length c.self.inside.bytes.items = omega (arith, c.self.invariant, c.self.inside.bytes.ok.0) in
    let told = rows-said c.self.inside.sent c.self.inside.bytes.items c.write_rows.new.out.items c.args.rows.now low c.in-Ok.ensures.ok in
    rw (← c.self.view_is) (refl, λ well. (well, told.0, told.1, told.2))
