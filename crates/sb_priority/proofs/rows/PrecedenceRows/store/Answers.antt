use Rattle.std.proofs.Common.{◌≡◌, ◌<◌, ℕ, true, length, ap, arith}
use Rattle.std.proofs.lemmas.List.{length-map}
use Rattle.sb_priority.specs.Closed.{relates}
use Rattle.sb_priority.specs.declared.rows.PrecedenceRow.{PrecedenceRow}
use Rattle.sb_priority.proofs.Kept.{stored, stored_closed}
use Rattle.sb_priority.proofs.rows.PrecedenceRows.store.Goals as goal

-- each rule that another one precedes has its row
within : (c : goal.After-fill) (a b : ℕ) → relates c.args.pairs.now a b ≡ true → b < length c.self.inside.rows.items
within c a b p = omega (arith, c.requires a b p, ap length c.self.view_is, length-map c.self.inside.rows.items (λ (row : PrecedenceRow). row.direct))

pub invariant_of-self : goal.invariant_of-self
invariant_of-self c = (
  omega (arith, c.fill.ensures.count, c.self.invariant.0),
  stored_closed c.precedes_is_closure.ensures c.args.pairs.now c.fill.new.rows.items (length c.self.inside.rows.items) c.are_listed.ensures.0 c.are_listed.ensures.1 c.fill.ensures.count (within c) c.fill.ensures.rows,
)

pub returns-clause-pairs : goal.returns-clause-pairs
returns-clause-pairs c = stored c.args.pairs.now c.fill.new.rows.items (length c.self.inside.rows.items) c.fill.ensures.count (within c) c.fill.ensures.rows
