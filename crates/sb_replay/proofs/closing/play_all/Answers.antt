use Rattle.std.proofs.Common.{List, length, subst, ◌≤◌, Vec, ℕ}
use Rattle.std.specs.Global.{Global}
use Rattle.std.specs.List.{All}
use Rattle.std.proofs.Common.{Result, Ok, Err, IfErr}
use Rattle.std.proofs.lemmas.Result.{IfOk-weaker}
use Rattle.sb_replay.specs.declared.error.ReplayError.{ReplayError}
use Rattle.sb_replay.specs.Replay.{IsUnclosed, IsUnplayed}
use Rattle.sb_replay.proofs.Faults.{unclosed_unplayed, unopened_unplayed}
use Rattle.sb_replay.specs.Parts.{AreAttended, PlaysOut}
use Rattle.sb_replay.specs.declared.closing.Closed.{Closed}
use Rattle.sb_replay.proofs.Whole.{plays_through}
use Rattle.sb_replay.proofs.closing.play_all.Goals as goal

pub returns-in-Ok-clause-ok : goal.returns-in-Ok-clause-ok
returns-in-Ok-clause-ok g c =
    let rows = c.args.rows.items in
    let parts = c.in-Ok.parts.items in
    let rounds = c.longest-rounds.result in
    let few = subst (λ (l : List (Vec (Vec ℕ Global) Global)). All (λ (row : Vec (Vec ℕ Global) Global). length row.items ≤ rounds) l) c.as_slice.ensures.value c.longest-rounds.ensures in
    IfOk-weaker c.play_out.result (λ (closed : Closed). PlaysOut rounds parts closed.sheets.items closed.stubs.items) (λ (closed : Closed). AreAttended rows closed.sheets.items closed.stubs.items)
    (λ closed played. plays_through rounds rows parts closed.sheets.items closed.stubs.items few c.in-Ok.ensures.ok played) c.play_out.ensures.ok

ends : (tenants : ℕ) (result : Result Closed ReplayError) → IfErr result IsUnclosed → IfErr result (IsUnplayed tenants)
ends tenants (Ok closed) h = tt
ends tenants (Err e) h = unclosed_unplayed tenants e h

pub returns-in-Ok-clause-err : goal.returns-in-Ok-clause-err
returns-in-Ok-clause-err g c = ends c.args.host.now c.play_out.result c.play_out.ensures.err

pub returns-in-Err-clause-err : goal.returns-in-Err-clause-err
returns-in-Err-clause-err g c = unopened_unplayed c.args.host.now c.in-Err.error c.in-Err.ensures.err
