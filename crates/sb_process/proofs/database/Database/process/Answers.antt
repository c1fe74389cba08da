use Rattle.std.proofs.Common.{◌∙◌, ◌^◌, sym, arith}
use Rattle.sb_value.specs.Flags.{flag_at}
use Rattle.sb_process.specs.declared.Outcome.{Outcome}
use Rattle.sb_process.specs.Process.{process}
use Rattle.sb_process.specs.Running.{ComesTo, Finds}
use Rattle.sb_process.specs.Setting.{Progress}
use Rattle.sb_process.proofs.Leaving.{leaves-back}
use Rattle.sb_process.proofs.Processing.{taken-back, processes-done, processes-back, if-ok}
use Rattle.sb_process.proofs.database.Database.process.Goals as goal

pub consider_all-requires-clause-room : goal.consider_all-requires-clause-room
consider_all-requires-clause-room g c = record { times = omega (arith, c.requires.times); numbers = (2 ^ 63, omega arith, c.requires.numbers) }

pub returns-then-is_done-clause-processed : goal.returns-then-is_done-clause-processed
returns-then-is_done-clause-processed g c = λ origin setting progress w.
    let mid = c.consider_all.new in let later = g.L.ChangeLog.records mid.log in let time = g.L.ChangeLog.clock mid.log in
    let S = λ (q : Progress). ComesTo origin mid.self c.args.point.now.session later time setting progress q in
    let meant = process c.args.point.now.bound setting (flag_at c.args.point.now.eligible) progress in
    let found = if-ok (λ (o : Outcome). Finds S meant c.new-list.result.items mid.trace.items o) c.consider_all.result c.in-Ok.outcome c.in-Ok.is (c.consider_all.ensures.processed origin setting progress w) in
    processes-done origin c.args.self.now mid.self c.args.point.now.session later time setting progress S meant mid.trace.items c.new-list.result.items c.in-Ok.outcome c.new-list.ensures.items (λ q k. k.stands)
    (sym c.is_done.ensures ∙ c.if-is_done.true) found

pub returns-else-is_done-clause-processed : goal.returns-else-is_done-clause-processed
returns-else-is_done-clause-processed g c = λ origin setting progress w.
    let mid = c.consider_all.new in let later = g.L.ChangeLog.records mid.log in let time = g.L.ChangeLog.clock mid.log in
    let new = c.rollback.new in let last = g.L.ChangeLog.records new.log in let end = g.L.ChangeLog.clock new.log in
    let S = λ (q : Progress). ComesTo origin mid.self c.args.point.now.session later time setting progress q in
    let meant = process c.args.point.now.bound setting (flag_at c.args.point.now.eligible) progress in
    let found = if-ok (λ (o : Outcome). Finds S meant c.new-list.result.items mid.trace.items o) c.consider_all.result c.in-Ok.outcome c.in-Ok.is (c.consider_all.ensures.processed origin setting progress w) in
    let come = c.consider_all.ensures.under_way origin setting progress w in
    processes-back origin c.args.self.now new.self c.args.point.now.session last end setting progress S meant mid.trace.items c.new-list.result.items c.in-Ok.outcome c.new-list.ensures.items
    (sym c.is_done.ensures ∙ c.if-is_done.false)
    (taken-back origin c.args.self.now new.self c.args.point.now.session last end setting progress mid.self later time come.0 come.1 c.consider_all.ensures.leaves.id c.consider_all.ensures.leaves.sessions
    (c.rollback.ensures.back origin setting come.0 (come.1).stands)) found

pub returns-in-Err-clause-no_memory : goal.returns-in-Err-clause-no_memory
returns-in-Err-clause-no_memory g c = λ origin setting progress w.
    let mid = c.consider_all.new in let later = g.L.ChangeLog.records mid.log in let time = g.L.ChangeLog.clock mid.log in
    let new = c.rollback-in-Err.new in let last = g.L.ChangeLog.records new.log in let end = g.L.ChangeLog.clock new.log in
    let come = c.consider_all.ensures.under_way origin setting progress w in
    taken-back origin c.args.self.now new.self c.args.point.now.session last end setting progress mid.self later time come.0 come.1 c.consider_all.ensures.leaves.id c.consider_all.ensures.leaves.sessions
    (c.rollback-in-Err.ensures.back origin setting come.0 (come.1).stands)

pub rollback-requires : goal.rollback-requires
rollback-requires g c =
    let w = c.requires.work in let come = c.consider_all.ensures.under_way w.0 w.1 w.2 w.3 in (w.0, w.1, come.0, (come.1).stands)

pub rollback-requires-in-Err : goal.rollback-requires-in-Err
rollback-requires-in-Err g c =
    let w = c.requires.work in let come = c.consider_all.ensures.under_way w.0 w.1 w.2 w.3 in (w.0, w.1, come.0, (come.1).stands)

pub returns-then-is_done-clause-leaves : goal.returns-then-is_done-clause-leaves
returns-then-is_done-clause-leaves g c = c.consider_all.ensures.leaves

pub returns-else-is_done-clause-leaves : goal.returns-else-is_done-clause-leaves
returns-else-is_done-clause-leaves g c =
    let w = c.requires.work in
    let come = c.consider_all.ensures.under_way w.0 w.1 w.2 w.3 in
    let back = c.rollback.ensures.back w.0 w.1 come.0 (come.1).stands in
    leaves-back c.consider_all.ensures.leaves back.id back.sessions c.rollback.ensures.others c.rollback.ensures.clock c.rollback.ensures.numbers

pub returns-in-Err-clause-leaves : goal.returns-in-Err-clause-leaves
returns-in-Err-clause-leaves g c =
    let w = c.requires.work in
    let come = c.consider_all.ensures.under_way w.0 w.1 w.2 w.3 in
    let back = c.rollback-in-Err.ensures.back w.0 w.1 come.0 (come.1).stands in
    leaves-back c.consider_all.ensures.leaves back.id back.sessions c.rollback-in-Err.ensures.others c.rollback-in-Err.ensures.clock c.rollback-in-Err.ensures.numbers

pub returns-then-is_done-clause-past : goal.returns-then-is_done-clause-past
returns-then-is_done-clause-past g c = λ rule.
    let w = c.requires.work in let come = c.consider_all.ensures.under_way w.0 w.1 w.2 w.3 in (come.1).stands.tested rule

pub returns-else-is_done-clause-past : goal.returns-else-is_done-clause-past
returns-else-is_done-clause-past g c = λ rule.
    let w = c.requires.work in let come = c.consider_all.ensures.under_way w.0 w.1 w.2 w.3 in
    rw (c.rollback.ensures.transactions, c.rollback.ensures.clock) ((come.1).stands.tested rule)

pub returns-in-Err-clause-past : goal.returns-in-Err-clause-past
returns-in-Err-clause-past g c = λ rule.
    let w = c.requires.work in let come = c.consider_all.ensures.under_way w.0 w.1 w.2 w.3 in
    rw (c.rollback-in-Err.ensures.transactions, c.rollback-in-Err.ensures.clock) ((come.1).stands.tested rule)
