use Rattle.std.proofs.Common.{◌*◌, ◌-◌, List}
use Rattle.sb_value.specs.Flags.{flag_at}
use Rattle.sb_tables.specs.Held.{Held}
use Rattle.sb_process.specs.Leaves.{Leaves}
use Rattle.sb_process.specs.Running.{ComesTo}
use Rattle.sb_process.specs.Setting.{Setting, Progress}
use Rattle.sb_process.specs.Work.{IsWork}
use Rattle.sb_process.proofs.Processing.{Reaches}
use Rattle.sb_process.proofs.database.Database.consider_all.Given as goal

-- from what the transaction has come to, the definition goes on with the considerations that are left
abbrev pub invariant-loop-turn : goal.invariant-loop-turn
invariant-loop-turn g l = record {
  reached : (origin : List Held) (setting : Setting) (progress : Progress) →
      IsWork origin l.initial.self l.point.session (g.L.ChangeLog.records l.initial.log) (g.L.ChangeLog.clock l.initial.log) l.rules.index.now l.rules.catalog.now l.rules.order.now setting progress →
      Reaches (λ q. ComesTo origin l.self l.point.session (g.L.ChangeLog.records l.log) (g.L.ChangeLog.clock l.log) setting progress q) setting (flag_at l.point.eligible) progress l.point.bound (l.point.bound - l._turn) l.initial.trace.items
      l.trace.items;
  leaves : Leaves (32768 * l._turn) l.initial.self l.self l.point.session (g.L.ChangeLog.records l.initial.log) (g.L.ChangeLog.records l.log) (g.L.ChangeLog.clock l.initial.log) (g.L.ChangeLog.clock l.log);
}
