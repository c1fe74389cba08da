use Rattle.std.proofs.Common.{◌≡◌, ◌<◌, ◌∙◌, Option, Some, length, slice_get, ap, sym, arith, unwrap_or}
use Rattle.std.proofs.lemmas.Bool.{false≢true}
use Rattle.std.proofs.lemmas.Option.{slice_get-get_or, slice_get_within}
use Rattle.sb_durable.specs.declared.recorded_reach.RecordedReach.{RecordedReach}
use Rattle.sb_durable.proofs.journal_writer.JournalWriter.is_recorded_to.Goals as goal

pub returns-then-place-len : goal.returns-then-place-len
returns-then-place-len g c =
    let none : slice_get c.args.self.now.recorded.items c.args.tenant ≡ Some c.args.reach → ⊥ =
    (λ there. let within = slice_get_within c.args.self.now.recorded.items c.args.tenant c.args.reach there in absurd (omega (arith, within, c.if-place-len.true, c.len.ensures))) in
    ((λ is. absurd (false≢true is)), (λ there. absurd (none there)))

pub returns : goal.returns
returns g c =
    let rec = c.args.self.now.recorded.items in
    let within : c.args.tenant < length rec = omega (arith, c.if-place-len.false, c.len.ensures) in
    let there : slice_get rec c.args.tenant ≡ Some c.index.result.now = slice_get-get_or rec c.args.tenant c.index.result.now within ∙ ap (λ r. Some r) (sym c.index.ensures) in
    ((λ is. there ∙ ap (λ r. Some r) (c.equals.ensures.0 is)), (λ other. c.equals.ensures.1 (ap (λ (o : Option RecordedReach). unwrap_or o c.args.reach) (sym there ∙ other))))
