use Rattle.std.proofs.Common.{ap, refl, map, []}
use Rattle.sb_process.specs.Made.{without_room}
use Rattle.sb_tenant.proofs.store.Store.new.Goals as goal

pub returns-clause-holds : goal.returns-clause-holds
returns-clause-holds c = (
  [],
  record {
    committed = refl;
    made = record { numbered = tt; stored = tt; proper = tt; made = ap (map without_room) c.new.ensures.tables };
    locked = λ s is. tt;
    exclusive = λ s o t m is io other h. refl;
    locks = c.new.ensures.locks;
    phases = λ s is. c.new-3.ensures s;
    candidates = λ s is. tt;
    rules = c.new-2.ensures.rules;
    ordered = c.new-2.ensures.order;
    rulesets = c.new-2.ensures.rulesets;
    runnable = tt;
  },
)
