use Rattle.std.proofs.Common.{◌≡◌, [], ◌∷◌, ◌++◌, sym, subst, arith}
use Rattle.sb_replay.specs.Scripts.{commands_at, rows_of}
use Rattle.sb_replay.proofs.Commands.{fresh_more}
use Rattle.sb_replay.proofs.script.RankedCommands.new.Goals as goal

pub loop-row-preserved : goal.loop-row-preserved
loop-row-preserved c =
    let rows = c.loop-row.rows.items in
    let row = c.new.result in
    let is : c.push.new.self.items ≡ rows ++ row ∷ [] = c.in_ok-push.ensures.items in (
      (let was = c.loop-row.invariant.0 in let long = c.in_ok-push.ensures.len in let ok = c.push.new.self.ok in let ok' = c.loop-row.rows.ok in omega (arith, was, ok, ok', long)),
      λ k. subst (λ l. commands_at (rows_of l) k ≡ []) (sym is) (fresh_more rows row c.new.ensures.items c.loop-row.invariant.1 k),
    )
