use Rattle.std.proofs.Common.{◌≡◌, ℕ, List, [], ◌∷◌, ◌++◌, OnOk, refl, subst}
use Rattle.sb_value.specs.declared.refusal.Verdict.{Verdict}
use Rattle.sb_process.specs.Consider.{consider}
use Rattle.sb_process.specs.Running.{ComesTo, verdict_noted}
use Rattle.sb_process.specs.Setting.{Progress}
use Rattle.sb_process.proofs.Leaving.{leaves-all}
use Rattle.sb_process.proofs.Processing.{noted-as}
use Rattle.sb_process.proofs.database.Database.consider_noted.Goals as goal

pub returns-then-is_err-clause-leaves : goal.returns-then-is_err-clause-leaves
returns-then-is_err-clause-leaves g c = leaves-all 32768 refl

pub returns-clause-noted : goal.returns-clause-noted
returns-clause-noted g c = λ origin setting progress w.
    let new = c.consider-considered.new in
    let S = λ (q : Progress). ComesTo origin new.self c.args.chosen.now.session (g.L.ChangeLog.records new.log) (g.L.ChangeLog.clock new.log) setting progress q in
    noted-as S c.args.chosen.now.rule.now.id progress c.args.trace.now.items c.note.new.trace.items (consider setting c.args.chosen.now.rule.now progress) c.consider-considered.result c.note.result
    (c.consider-considered.ensures.considered origin setting progress w) c.note.ensures.outcome
    (subst (λ (l : List (ℕ × Verdict)). OnOk c.note.result (c.note.new.trace.items ≡ l ++ (c.args.chosen.now.rule.now.id, verdict_noted c.consider-considered.result) ∷ [])) c.reserve.ensures.items c.note.ensures.verdict) c.note.ensures.had_memory
