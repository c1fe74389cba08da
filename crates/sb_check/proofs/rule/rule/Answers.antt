use Rattle.std.proofs.Common.{◌≡◌, ◌∙◌, ap, sym, Err}
use Rattle.std.specs.Prelude.{Result}
use Rattle.sb_value.specs.declared.net.Triggers.{Triggers}
use Rattle.sb_value.specs.declared.refusal.Refusal.{Refusal}
use Rattle.sb_value.specs.Table.{Entry}
use Rattle.sb_syntax.specs.Views as view
use Rattle.sb_check.specs.Answer.{IsRefused, refusal_of}
use Rattle.sb_check.specs.Lent.{LendsTable, SeenTable}
use Rattle.sb_check.specs.Names.{and_then}
use Rattle.sb_check.specs.Triggers.{walk_triggers}
use Rattle.sb_check.specs.Walk.{table_named}
use Rattle.sb_check.specs.declared.fault.CheckFault.{CheckFault}
use Rattle.sb_check.specs.declared.fault.CheckFault.TheVariants.{Refused, NoMemory}
use Rattle.sb_check.specs.declared.rule.RuleParts.{RuleParts}
use Rattle.sb_check.proofs.Results.{same_refusal}
use Rattle.sb_check.proofs.rule.rule.Goals as goal

pub returns-in-Ok-clause-head : goal.returns-in-Ok-clause-head
returns-in-Ok-clause-head g c e h =
    let names = g.S.Schema.names c.args.schema.now in
    let r = view.rule c.args.text.now in
    let found = c.in-Ok.ensures in
    c.parts_on.ensures.triggers e
    (ap (λ (s : SeenTable). walk_triggers s.2 r.triggers) found.2 ∙ sym (ap (λ (t : Result Entry Refusal). and_then t (λ x. walk_triggers x.table.columns r.triggers)) found.1) ∙ h)

refused_first : (walk : Result Entry Refusal) (next : Entry → Result Triggers Refusal) (fault : CheckFault) (e : Refusal) → LendsTable walk (Err fault) → and_then walk next ≡ Err e → IsRefused {X = RuleParts} e (Err fault)
refused_first walk next (Refused r) e h k = same_refusal {A = Triggers} (and_then walk next) (refusal_of r) e (ap (λ w. and_then w next) h) k
refused_first walk next NoMemory e h k = h

pub returns-in-Err-clause-head : goal.returns-in-Err-clause-head
returns-in-Err-clause-head g c e h =
    let names = g.S.Schema.names c.args.schema.now in
    let r = view.rule c.args.text.now in
    refused_first (table_named names r.table) (λ x. walk_triggers x.table.columns r.triggers) c.in-Err.fault e c.in-Err.ensures h
