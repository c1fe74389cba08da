use Rattle.std.proofs.Common.{◌∙◌, [], refl, sym}
use Rattle.sb_tenant.specs.Perform.{named, reply_of}
use Rattle.sb_tenant.specs.State as state
use Rattle.sb_tenant.proofs.told.told.Goals as goal

pub returns-clause-told : goal.returns-clause-told
returns-clause-told c = λ catalog same.
    c.in_ok-reply.ensures catalog same ∙ (λ i. reply_of catalog c.args.processed.now.outcome ((c.in_ok-trace.ensures catalog same ∙ (λ j. named catalog (c.as_slice-turns.ensures j))) i))

-- some catalog has these rules
pub returns-clause-twice : goal.returns-clause-twice
returns-clause-twice c =
    let catalog : state.Catalog = record { tables = []; rules = c.args.rules.now; rulesets = []; pairs = [] } in
    c.in_ok-copy.ensures catalog refl ∙ (λ i. reply_of catalog c.args.processed.now.outcome (c.in_ok-shared.ensures i)) ∙ sym (c.in_ok-reply.ensures catalog refl)
