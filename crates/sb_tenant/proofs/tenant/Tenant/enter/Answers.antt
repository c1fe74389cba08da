use Rattle.std.proofs.Common.{◌≡◌, ℕ, ◌≤◌, ◌^◌, ◌∙◌, ◌++◌, ◌∷◌, [], List, sym, subst, refl, length, false, Some, arith}
use Rattle.sb_tenant.specs.declared.reply.Entry.{Entry}
use Rattle.sb_tenant.specs.declared.reply.Reply.{Reply}
use Rattle.sb_tenant.specs.declared.tenant.Tenant.TheInside.{Inside}
use Rattle.sb_tenant.specs.Remembered.{seen}
use Rattle.sb_tenant.specs.State.{State}
use Rattle.sb_tenant.specs.declared.store.Store.{Store}
use Rattle.sb_tenant.specs.Represents.{Holds, Leaves, Performs, StandFor}
use Rattle.sb_tenant.specs.Logged.{Agrees}
use Rattle.sb_rawlog.specs.Records.{Record}
use Rattle.sb_index.specs.TableSets.{TableSets}
use Rattle.sb_tables.specs.Held.{Held}
use Rattle.sb_process.specs.Made.{NumbersBelow}
use Rattle.sb_catalog.specs.Definitions.{OtherTenantsStay}
use Rattle.sb_tenant.specs.Step.{is_full_for, is_end_of_open, reply_to}
use Rattle.sb_tenant.specs.Tenant.{Tenant, IsSame, MakesStep, state}
use Rattle.sb_tenant.specs.Lending.{InStep, StaysInStep}
use Rattle.sb_tenant.specs.Trail.{entry_of}
use Rattle.sb_tenant.proofs.ReplayLaws.{open_at_most}
use Rattle.sb_tenant.proofs.Shares.{holds_limited, leaves_limited, with_memory}
use Rattle.sb_tenant.proofs.Steps.{IsEntered, few_entries, few_numbers, performed, still_remembered, entered_in_step, entered_legal, entered_made, entered_remembered}
use Rattle.sb_tenant.proofs.tenant.Tenant.enter.Given.{Over}
use Rattle.sb_tenant.proofs.tenant.Tenant.enter.Goals as goal
use Rattle.sb_tenant.specs.Limits.{entry_limit}

pub invariant_of-self : goal.invariant_of-self
invariant_of-self g c =
    still_remembered c.self.inside _ c.self.invariant refl refl refl c.make_ready.ensures.items c.make_ready.ensures.len c.make_ready.ensures.capacity c.make_ready.ensures.ends

-- what stood for a state with the store stands for it with its share of memory
stands_of : (store limited : Store) (records : List Record) (clock : ℕ) (index : List (List TableSets)) (state : State) → limited ≡ with_memory store limited.database.memory
    → (origin : List Held) × Holds origin store state → Agrees store.database.id state store.database.transactions records clock index → StandFor limited records clock index state
stands_of store limited records clock index state same holds agrees =
    subst (λ (x : Store). StandFor x records clock index state) (sym same) (holds_limited store limited.database.memory state holds, agrees)

pub answer-reply-requires-clause-stand : goal.answer-reply-requires-clause-stand
answer-reply-requires-clause-stand g c =
    let agrees = subst (λ (v : Tenant). InStep v (g.L.ChangeLog.records c.args.log.now) (g.L.ChangeLog.clock c.args.log.now) c.args.index.now) (sym c.self.view_is) c.requires.in_step in
    (state (seen c.self.inside), stands_of c.self.inside.store c.limit_memory.new.self _ _ _ (state (seen c.self.inside)) c.limit_memory.ensures c.self.invariant.holds agrees)

pub answer-reply-requires-clause-numbers : goal.answer-reply-requires-clause-numbers
answer-reply-requires-clause-numbers g c =
    subst (λ (x : Store). NumbersBelow (2 ^ 63) x.database.tables) (sym c.limit_memory.ensures)
    (c.self.invariant.numbers _ (few_numbers (length c.self.inside.trail.items) (few_entries (seen c.self.inside) c.self.invariant.legal)))

pub put-requires-clause-few : goal.put-requires-clause-few
put-requires-clause-few g c =
    subst (λ (es : List Entry). length es ≤ entry_limit) (sym c.make_ready.ensures.items) (few_entries (seen c.self.inside) c.self.invariant.legal)

-- the fields after it
abbrev after : (g : Over) → goal.After-put g → Inside
after g c = record c.self.inside { store = c.answer-reply.new.self; trail = c.put.new.trail; end_lines = c.make_ready.new.end_lines; known_lines = c.make_ready.new.known_lines; quota = c.count_entry.new.self }

leaves : (g : Over) (c : goal.After-put g) → Leaves 32768000 c.self.inside.store c.answer-reply.new.self c.args.session (g.L.ChangeLog.records c.args.log.now) (g.L.ChangeLog.records c.answer-reply.new.log) (g.L.ChangeLog.clock c.args.log.now) (g.L.ChangeLog.clock c.answer-reply.new.log)
leaves g c =
    leaves_limited c.self.inside.store c.limit_memory.new.self.database.memory 32768000 c.answer-reply.new.self c.args.session _ _ _ _
    (subst (λ (x : Store). Leaves 32768000 x c.answer-reply.new.self c.args.session (g.L.ChangeLog.records c.args.log.now) (g.L.ChangeLog.records c.answer-reply.new.log) (g.L.ChangeLog.clock c.args.log.now) (g.L.ChangeLog.clock c.answer-reply.new.log)) c.limit_memory.ensures c.answer-reply.ensures.leaves)

same : (g : Over) (c : goal.After-put g) → IsSame (seen c.self.inside) (seen (after g c))
same g c = ((leaves g c).id, refl, refl)

longer : (g : Over) (c : goal.After-put g) → c.put.new.trail.items ≡ c.self.inside.trail.items ++ entry_of c.args.session c.args.sent.now.line.now c.answer-reply.result.0 ∷ []
longer g c = c.put.ensures.items ∙ (λ i. c.make_ready.ensures.items i ++ entry_of c.args.session (c.in_ok-kept.ensures.line i) c.answer-reply.result.0 ∷ [])

answered_for : (g : Over) (c : goal.After-put g) → Performs c.answer-reply.new.self (g.L.ChangeLog.records c.answer-reply.new.log) (g.L.ChangeLog.clock c.answer-reply.new.log) c.answer-reply.new.index (state (seen c.self.inside)) c.args.session
    (reply_to c.self.inside.store.database.id c.self.inside.bound (state (seen c.self.inside)) c.args.session c.args.sent.now.line.now) c.answer-reply.result.0
answered_for g c =
    subst (λ (x : Store). Performs c.answer-reply.new.self (g.L.ChangeLog.records c.answer-reply.new.log) (g.L.ChangeLog.clock c.answer-reply.new.log) c.answer-reply.new.index (state (seen c.self.inside)) c.args.session
    (reply_to x.database.id c.self.inside.bound (state (seen c.self.inside)) c.args.session c.args.sent.now.line.now) c.answer-reply.result.0)
    c.limit_memory.ensures
    (
    let agrees = subst (λ (v : Tenant). InStep v (g.L.ChangeLog.records c.args.log.now) (g.L.ChangeLog.clock c.args.log.now) c.args.index.now) (sym c.self.view_is) c.requires.in_step in
    c.answer-reply.ensures.answered (state (seen c.self.inside)) (stands_of c.self.inside.store c.limit_memory.new.self _ _ _ (state (seen c.self.inside)) c.limit_memory.ensures c.self.invariant.holds agrees)
    )

others : (g : Over) (c : goal.After-put g) → OtherTenantsStay c.self.inside.store.database.id c.args.index.now c.answer-reply.new.index
others g c = subst (λ (x : Store). OtherTenantsStay x.database.id c.args.index.now c.answer-reply.new.index) c.limit_memory.ensures c.answer-reply.ensures.others

-- the answer is the next entry
entered : (g : Over) (c : goal.After-put g) → (next : State) × IsEntered (seen c.self.inside).id (seen c.self.inside).bound (seen c.self.inside).trail c.args.session c.args.sent.now.line.now c.answer-reply.result.0 c.answer-reply.new.self
    (g.L.ChangeLog.records c.answer-reply.new.log) (g.L.ChangeLog.clock c.answer-reply.new.log) c.answer-reply.new.index next
entered g c =
    let t = seen c.self.inside in
    let room = subst (λ (v : Tenant). is_full_for (state v) c.args.session c.args.sent.now.line.now ≡ false) (sym c.self.view_is) c.requires.room in
    let goes_on = subst (λ (v : Tenant). is_end_of_open (state v) c.args.session c.args.sent.now.line.now ≡ false) (sym c.self.view_is) c.requires.goes_on in
    performed t.id t.bound t.trail c.self.invariant.legal c.args.session c.args.sent.now.line.now c.in_range.ensures room c.answer-reply.result.0 c.answer-reply.new.self (g.L.ChangeLog.records c.answer-reply.new.log) (g.L.ChangeLog.clock c.answer-reply.new.log)
    c.answer-reply.new.index goes_on (answered_for g c)

pub invariant_of-self-2 : goal.invariant_of-self-2
invariant_of-self-2 g c =
    let e = entered g c in
    let few = open_at_most e.0 in
    entered_remembered c.self.inside (after g c) c.self.invariant (same g c) c.args.session c.args.sent.now.line.now c.answer-reply.result.0 _ _ _ _ c.args.index.now _ e.0 32768000 (leaves g c) (longer g c) e.1 (omega arith)
    (omega (arith, few, c.in_ok-kept.ensures.places, c.put.ensures.len, c.put.ensures.capacity)) (omega (arith, few, c.in_ok-kept.ensures.filled))

pub returns-clause-ok : goal.returns-clause-ok
returns-clause-ok g c =
    let e = entered g c in
    subst (λ (told : Reply). MakesStep c.args.self.now c.args.session c.args.sent.now.line.now (record { number = Some c.put.result; reply = told }) (seen (after g c))) (sym c.answer-reply.ensures.twice)
    (subst (λ (v : Tenant). MakesStep v c.args.session c.args.sent.now.line.now (record { number = Some c.put.result; reply = c.answer-reply.result.0 }) (seen (after g c))) c.self.view_is
    (entered_made c.self.inside (after g c) c.self.invariant (same g c) c.args.session c.args.sent.now.line.now c.answer-reply.result.0 _ _ _ _ c.args.index.now _ e.0 32768000 (leaves g c) (longer g c) e.1 c.put.result c.put.ensures.number))

pub returns-clause-legal : goal.returns-clause-legal
returns-clause-legal g c =
    let e = entered g c in
    entered_legal c.self.inside (after g c) c.self.invariant (same g c) c.args.session c.args.sent.now.line.now c.answer-reply.result.0 _ _ _ _ c.args.index.now _ e.0 32768000 (leaves g c) (longer g c) e.1

pub returns-clause-in_step : goal.returns-clause-in_step
returns-clause-in_step g c =
    let e = entered g c in
    subst (λ (v : Tenant). StaysInStep 32768000 v (seen (after g c)) c.args.session (g.L.ChangeLog.records c.args.log.now) (g.L.ChangeLog.records c.answer-reply.new.log) (g.L.ChangeLog.clock c.args.log.now) (g.L.ChangeLog.clock c.answer-reply.new.log) c.args.index.now c.answer-reply.new.index) c.self.view_is
    (entered_in_step c.self.inside (after g c) c.self.invariant (same g c) c.args.session c.args.sent.now.line.now c.answer-reply.result.0 _ _ _ _ c.args.index.now _ e.0 32768000 (leaves g c) (longer g c) e.1 (others g c))
