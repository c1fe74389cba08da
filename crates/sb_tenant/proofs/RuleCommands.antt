-- The rules with one more or one less, and with one of them active or not.
use Rattle.std.proofs.Common.{◌≡◌, ◌∙◌, ◌⊎◌, ℕ, ◌≤◌, Bool, true, false, not, List, ◌++◌, length, refl, sym, ap, subst, inl, inr}
use Rattle.std.specs.Prelude.{Option, Some, None, Result, Ok, Err, [], unwrap_or}
use Rattle.sb_tenant.specs.declared.bound.Bound.{Bound}
use Rattle.sb_value.specs.declared.refusal.Refusal.{Refusal}
use Rattle.sb_value.specs.declared.refusal.Refusal.TheVariants as refusal
use Rattle.sb_value.specs.Table.{Entry, table_at}
use Rattle.sb_syntax.specs.Tree.{RuleText, AlterationText}
use Rattle.sb_syntax.specs.Tree as text
use Rattle.sb_check.specs.Names.{and_then, required, some_or}
use Rattle.sb_check.specs.RuleParts.{Parts, NewParts, walk_parts, walk_alteration}
use Rattle.sb_check.specs.There.{ArePartsThere, AreNewPartsThere}
use Rattle.sb_rawlog.specs.Records.{Record}
use Rattle.sb_index.specs.TableSets.{TableSets}
use Rattle.sb_priority.specs.Ranks.{pairs_without}
use Rattle.sb_tables.specs.Held.{entries}
use Rattle.sb_catalog.specs.Ruleset.{Ruleset}
use Rattle.sb_catalog.specs.Sets as rulesets
use Rattle.sb_catalog.specs.Definitions.{AreIndexed, AreOrdered, Alters, Creates, Drops, SetsActive, OtherTenantsStay, altered_pairs, new_pairs}
use Rattle.sb_catalog.specs.Rules.{rule_named, named, has_name, free_rule, created, rule_of, with_parts}
use Rattle.sb_catalog.specs.Rules as rules
use Rattle.sb_catalog.specs.declared.definitions.Definitions.{Definitions}
use Rattle.sb_catalog.specs.declared.rule.Rule.{Rule}
use Rattle.sb_process.specs.Work.{CanRun}
use Rattle.sb_tenant.specs.declared.store.Store.{Store}
use Rattle.sb_tenant.specs.Catalog.{with_rule, with_altered, without_rule, with_active}
use Rattle.sb_tenant.specs.Defining.{Defines, IsAtRest, Stands}
use Rattle.sb_tenant.specs.Represents.{StandFor}
use Rattle.sb_tenant.specs.Resolved.{Resolved, NewRule, AlteredRule, create_rule, alter_rule, drop_rule}
use Rattle.sb_tenant.specs.Perform.{perform}
use Rattle.sb_tenant.specs.State.{State}
use Rattle.sb_tenant.specs.Walk.{walk}
use Rattle.sb_tenant.specs.declared.reply.Reply.TheVariants as reply
use Rattle.sb_tenant.proofs.AtRest.{entries_at_rest, made_at_rest, stands_anew}
use Rattle.sb_tenant.proofs.Defining.{two_more, refused, refused_here, IsPerformed, is_done}
use Rattle.sb_tenant.proofs.Runnable.{new_rule_runs, altered_rule_runs, others_run, run_active}
use Rattle.sb_tenant.proofs.TableCommands.{outside}

-- other definitions, and the same tables
module _ (old : Store) (records : List Record) (clock : ℕ) (before after : List (List TableSets)) (state : State) (definitions : Definitions) (rest : IsAtRest old.phases) where
  pub stands_defined : (all : List Rule) (pairs : List (ℕ × ℕ)) (sets : List Ruleset) → StandFor old records clock before state
      → definitions.rules ≡ all → AreOrdered definitions.order all pairs → definitions.rulesets ≡ sets → CanRun old.database.tables all → AreIndexed after old.database.id all
      → StandFor (record old { definitions = definitions }) records clock after (record state { catalog = record state.catalog { rules = all; pairs = pairs; rulesets = sets } })
  stands_defined all pairs sets ((origin, holds), agrees) are ordered members runnable indexed =
      stands_anew old records clock before after state origin old.database.tables definitions (record state.catalog { rules = all; pairs = pairs; rulesets = sets }) rest ((origin, holds), agrees)
      (record {
        committed = holds.committed;
        made = made_at_rest old origin state rest holds;
        rules = are;
        ordered = ordered;
        rulesets = members;
        runnable = runnable;
        indexed = indexed;
      })

-- ---- a new rule

abbrev pub walk_new_rule : RuleText → Bool → Result Parts Refusal → Result (List (ℕ × ℕ)) Refusal → Result Resolved Refusal
walk_new_rule r taken parts pairs =
    required (not taken) refusal.RuleExists (and_then parts (λ p. and_then pairs (λ more. Ok (create_rule (record { name = r.name; parts = p; pairs = more })))))

-- the order that memory has
pub some_order : (store : Store) (index : List (List TableSets)) → Stands store index → (pairs : List (ℕ × ℕ)) × AreOrdered store.definitions.order store.definitions.rules pairs
some_order store index (records, clock, state, ((origin, holds), agrees)) =
    (state.catalog.pairs, subst (λ (rs : List Rule). AreOrdered store.definitions.order rs state.catalog.pairs) (sym holds.rules) holds.ordered)

module _ (old : Store) (before after : List (List TableSets)) (r : RuleText) where
  -- a name that is taken
  pub rule_exists : has_name old.definitions.rules r.name ≡ true → (records : List Record) (clock : ℕ) (state : State) → StandFor old records clock before state
      → (walk_new_rule r (has_name state.catalog.rules r.name) (walk_parts (outside state.catalog.tables) r) (new_pairs state.catalog.rules state.catalog.pairs r.precedes r.follows) ≡ Err refusal.RuleExists)
      ⊎ (refusal.RuleExists ≡ refusal.NoMemory)
  rule_exists taken records clock state ((origin, holds), agrees) =
      inl (ap (λ (b : Bool). walk_new_rule r b (walk_parts (outside state.catalog.tables) r) (new_pairs state.catalog.rules state.catalog.pairs r.precedes r.follows))
      (ap (λ (rs : List Rule). has_name rs r.name) (sym holds.rules) ∙ taken))

  module _ (rest : IsAtRest old.phases) (free : has_name old.definitions.rules r.name ≡ false) where
    -- the walk by what memory has
    walk_is : (records : List Record) (clock : ℕ) (state : State) (parts : Result Parts Refusal) (pairs : Result (List (ℕ × ℕ)) Refusal) → StandFor old records clock before state
        → walk_parts (outside (entries old.database.tables)) r ≡ parts → new_pairs old.definitions.rules state.catalog.pairs r.precedes r.follows ≡ pairs
        → walk_new_rule r (has_name state.catalog.rules r.name) (walk_parts (outside state.catalog.tables) r) (new_pairs state.catalog.rules state.catalog.pairs r.precedes r.follows)
        ≡ walk_new_rule r false parts pairs
    walk_is records clock state parts pairs ((origin, holds), agrees) p q = λ i.
        walk_new_rule r ((ap (λ (rs : List Rule). has_name rs r.name) (sym holds.rules) ∙ free) i)
        ((ap (λ ts. walk_parts (outside ts) r) (sym (entries_at_rest old origin state rest holds)) ∙ p) i)
        ((ap (λ (rs : List Rule). new_pairs rs state.catalog.pairs r.precedes r.follows) (sym holds.rules) ∙ q) i)

    pub parts_refused : (e : Refusal) → (walk_parts (outside (entries old.database.tables)) r ≡ Err e) ⊎ (e ≡ refusal.NoMemory) → (records : List Record) (clock : ℕ) (state : State) → StandFor old records clock before state
        → (walk_new_rule r (has_name state.catalog.rules r.name) (walk_parts (outside state.catalog.tables) r) (new_pairs state.catalog.rules state.catalog.pairs r.precedes r.follows) ≡ Err e)
        ⊎ (e ≡ refusal.NoMemory)
    parts_refused e (inr m) records clock state h = inr m
    parts_refused e (inl w) records clock state h = inl (walk_is records clock state (Err e) (new_pairs old.definitions.rules state.catalog.pairs r.precedes r.follows) h w refl)

    module _ (parts : Parts) (walked : walk_parts (outside (entries old.database.tables)) r ≡ Ok parts) (new : Definitions)
        (others : OtherTenantsStay old.database.id before after) (indexed : AreIndexed before old.database.id old.definitions.rules → AreIndexed after old.database.id new.rules) where
      refused_by : (records : List Record) (clock : ℕ) (state : State) (e : Refusal) → StandFor old records clock before state
          → (new_pairs old.definitions.rules state.catalog.pairs r.precedes r.follows ≡ Err e) ⊎ (e ≡ refusal.NoMemory)
          → (walk_new_rule r (has_name state.catalog.rules r.name) (walk_parts (outside state.catalog.tables) r) (new_pairs state.catalog.rules state.catalog.pairs r.precedes r.follows) ≡ Err e)
          ⊎ (e ≡ refusal.NoMemory)
      refused_by records clock state e h (inr m) = inr m
      refused_by records clock state e h (inl w) = inl (walk_is records clock state (Ok parts) (Err e) h walked w)

      abbrev pub IsCreated : Result (Unit {0}) Refusal → Type 0
      IsCreated result = (pairs : List (ℕ × ℕ)) → AreOrdered old.definitions.order old.definitions.rules pairs → Creates old.definitions new pairs r.name parts r.precedes r.follows result

      ordered_by : (records : List Record) (clock : ℕ) (state : State) → StandFor old records clock before state → AreOrdered old.definitions.order old.definitions.rules state.catalog.pairs
      ordered_by records clock state ((origin, holds), agrees) = subst (λ (rs : List Rule). AreOrdered old.definitions.order rs state.catalog.pairs) (sym holds.rules) holds.ordered

      pub lists_refused : (e : Refusal) → new ≡ old.definitions → IsCreated (Err e) → Defines old old before after (text.create_rule r) (Err e)
      lists_refused e same made =
          refused (text.create_rule r) old before after e (λ h. subst (AreIndexed after old.database.id) (ap (λ (d : Definitions). d.rules) same) (indexed h)) others
          (λ records clock state h. refused_by records clock state e h (made state.catalog.pairs (ordered_by records clock state h)).0)

      pub rule_created : ArePartsThere (entries old.database.tables) r parts → length r.actions ≤ 8 → IsCreated (Ok tt) → Defines old (record old { definitions = new }) before after (text.create_rule r) (Ok tt)
      rule_created there few made = record {
        done = λ records clock state tenant bound s h. is_done (text.create_rule r) (record old { definitions = new }) records clock before after state tenant bound s (performed records clock state h);
        id = refl;
        numbers = λ n. two_more n old.database.tables;
        others = others;
      }
        where
          performed : (records : List Record) (clock : ℕ) (state : State) → StandFor old records clock before state → IsPerformed (text.create_rule r) (record old { definitions = new }) records clock after state
          performed records clock state ((origin, holds), agrees) =
              let h : StandFor old records clock before state = ((origin, holds), agrees) in
              let m = made state.catalog.pairs (ordered_by records clock state h) in
              let rule : NewRule = record { name = r.name; parts = parts; pairs = m.0 } in
              let all : List Rule = created state.catalog.rules r.name parts in
              let are : new.rules ≡ all = m.2 ∙ ap (λ (rs : List Rule). created rs r.name parts) holds.rules in
              record {
                resolved = create_rule rule;
                catalog = with_rule state.catalog rule;
                walked = walk_is records clock state (Ok parts) (Ok m.0) h walked m.1;
                performed = λ tenant bound s. refl;
                stands =
                    stands_defined old records clock before after state new rest all (state.catalog.pairs ++ m.0) state.catalog.rulesets h are
                    (subst (λ (rs : List Rule). AreOrdered new.order rs (state.catalog.pairs ++ m.0)) are m.3) (m.4 ∙ holds.rulesets)
                    (new_rule_runs old.database.tables state.catalog.rules (free_rule state.catalog.rules) r parts holds.runnable there few)
                    (subst (AreIndexed after old.database.id) are (indexed (subst (AreIndexed before old.database.id) (sym holds.rules) agrees.indexed)));
              }

      -- whichever it was
      pub rule_made : ArePartsThere (entries old.database.tables) r parts → length r.actions ≤ 8 → (pairs : List (ℕ × ℕ)) × AreOrdered old.definitions.order old.definitions.rules pairs
          → (result : Result (Unit {0}) Refusal) → IsCreated result → Defines old (record old { definitions = new }) before after (text.create_rule r) result
      rule_made there few order (Ok u) made = rule_created there few made
      rule_made there few order (Err e) made =
          let same : new ≡ old.definitions = (made order.0 order.1).1 in
          subst (λ (d : Definitions). Defines old (record old { definitions = d }) before after (text.create_rule r) (Err e)) (sym same) (lists_refused e same made)

-- ---- a rule that is there

module _ (old : Store) (before after : List (List TableSets)) (name : List ℕ) where
  -- a command on a rule by what memory has
  abbrev of_named : (ℕ → Resolved) → Result ℕ Refusal → Result Resolved Refusal
  of_named form found = and_then found (λ id. Ok (form id))

  found_is : (records : List Record) (clock : ℕ) (state : State) (found : Result ℕ Refusal) (form : ℕ → Resolved) → StandFor old records clock before state
      → rule_named old.definitions.rules name ≡ found → of_named form (rule_named state.catalog.rules name) ≡ of_named form found
  found_is records clock state found form ((origin, holds), agrees) e = ap (of_named form) (ap (λ (rs : List Rule). rule_named rs name) (sym holds.rules) ∙ e)

  -- the walk of such a command that is refused
  pub not_named : (form : ℕ → Resolved) (e : Refusal) → (rule_named old.definitions.rules name ≡ Err e) ⊎ (e ≡ refusal.NoMemory) → (records : List Record) (clock : ℕ) (state : State)
      → StandFor old records clock before state → (of_named form (rule_named state.catalog.rules name) ≡ Err e) ⊎ (e ≡ refusal.NoMemory)
  not_named form e (inl w) records clock state h = inl (found_is records clock state (Err e) form h w)
  not_named form e (inr m) records clock state h = inr m

  -- a command that the walk resolves to this form, where nothing is defined
  pub not_found : (new : Definitions) (command : text.Command) (form : ℕ → Resolved) (e : Refusal) → ((state : State) → walk state.catalog command ≡ of_named form (rule_named state.catalog.rules name))
      → new ≡ old.definitions → OtherTenantsStay old.database.id before after → (AreIndexed before old.database.id old.definitions.rules → AreIndexed after old.database.id new.rules)
      → (rule_named old.definitions.rules name ≡ Err e) ⊎ (e ≡ refusal.NoMemory) → Defines old (record old { definitions = new }) before after command (Err e)
  not_found new command form e walks same others indexed why =
      subst (λ (d : Definitions). Defines old (record old { definitions = d }) before after command (Err e)) (sym same)
      (refused command old before after e (λ h. subst (AreIndexed after old.database.id) (ap (λ (d : Definitions). d.rules) same) (indexed h)) others
      (λ records clock state h. by state (not_named form e why records clock state h)))
    where
      by : (state : State) → (of_named form (rule_named state.catalog.rules name) ≡ Err e) ⊎ (e ≡ refusal.NoMemory) → (walk state.catalog command ≡ Err e) ⊎ (e ≡ refusal.NoMemory)
      by state (inl w) = inl (walks state ∙ w)
      by state (inr m) = inr m

  module _ (rest : IsAtRest old.phases) (new : Definitions) (id : ℕ) (found : rule_named old.definitions.rules name ≡ Ok id)
      (others : OtherTenantsStay old.database.id before after) (indexed : AreIndexed before old.database.id old.definitions.rules → AreIndexed after old.database.id new.rules) where
    abbrev store : Store
    store = record old { definitions = new }

    indexed_by : (records : List Record) (clock : ℕ) (state : State) (all : List Rule) → StandFor old records clock before state → new.rules ≡ all → AreIndexed after old.database.id all
    indexed_by records clock state all ((origin, holds), agrees) e =
        subst (AreIndexed after old.database.id) e (indexed (subst (AreIndexed before old.database.id) (sym holds.rules) agrees.indexed))

    ordered_as : (records : List Record) (clock : ℕ) (state : State) → StandFor old records clock before state → AreOrdered old.definitions.order old.definitions.rules state.catalog.pairs
    ordered_as records clock state ((origin, holds), agrees) = subst (λ (rs : List Rule). AreOrdered old.definitions.order rs state.catalog.pairs) (sym holds.rules) holds.ordered

    pub rule_dropped : Drops old.definitions new id → Defines old store before after (text.drop_rule name) (Ok tt)
    rule_dropped drops = record {
      done = λ records clock state tenant bound s h. is_done (text.drop_rule name) store records clock before after state tenant bound s (performed records clock state h);
      id = refl;
      numbers = λ n. two_more n old.database.tables;
      others = others;
    }
      where
        performed : (records : List Record) (clock : ℕ) (state : State) → StandFor old records clock before state → IsPerformed (text.drop_rule name) store records clock after state
        performed records clock state ((origin, holds), agrees) =
            let h : StandFor old records clock before state = ((origin, holds), agrees) in
            let all : List Rule = rules.without_rule state.catalog.rules id in
            let are : new.rules ≡ all = drops.rules ∙ ap (λ (rs : List Rule). rules.without_rule rs id) holds.rules in
            record {
              resolved = drop_rule id;
              catalog = without_rule state.catalog id;
              walked = found_is records clock state (Ok id) drop_rule h found;
              performed = λ tenant bound s. refl;
              stands =
                  stands_defined old records clock before after state new rest all (pairs_without id state.catalog.pairs) (rulesets.without_rule state.catalog.rulesets id) h are
                  (subst (λ (rs : List Rule). AreOrdered new.order rs (pairs_without id state.catalog.pairs)) are (drops.order state.catalog.pairs (ordered_as records clock state h)))
                  (drops.rulesets ∙ ap (λ (sets : List Ruleset). rulesets.without_rule sets id) holds.rulesets)
                  (others_run old.database.tables state.catalog.rules id holds.runnable) (indexed_by records clock state all h are);
            }

    -- made active or not, by a command that the walk resolves to this form
    pub rule_set : (active : Bool) (command : text.Command) (form : ℕ → Resolved)
        → ((state : State) → walk state.catalog command ≡ of_named form (rule_named state.catalog.rules name))
        → ((tenant : ℕ) (bound : Bound) (s : ℕ) (state : State) → perform tenant bound state s (form id) ≡ (record state { catalog = with_active state.catalog id active }, reply.Ok))
        → SetsActive old.definitions new id active → Defines old store before after command (Ok tt)
    rule_set active command form walks performs sets = record {
      done = λ records clock state tenant bound s h. is_done command store records clock before after state tenant bound s (performed records clock state h);
      id = refl;
      numbers = λ n. two_more n old.database.tables;
      others = others;
    }
      where
        performed : (records : List Record) (clock : ℕ) (state : State) → StandFor old records clock before state → IsPerformed command store records clock after state
        performed records clock state ((origin, holds), agrees) =
            let h : StandFor old records clock before state = ((origin, holds), agrees) in
            let all : List Rule = rules.with_active state.catalog.rules id active in
            let are : new.rules ≡ all = sets.rules ∙ ap (λ (rs : List Rule). rules.with_active rs id active) holds.rules in
            record {
              resolved = form id;
              catalog = with_active state.catalog id active;
              walked = walks state ∙ found_is records clock state (Ok id) form h found;
              performed = λ tenant bound s. performs tenant bound s state;
              stands =
                  stands_defined old records clock before after state new rest all state.catalog.pairs state.catalog.rulesets h are
                  (subst (λ (rs : List Rule). AreOrdered new.order rs state.catalog.pairs) are (sets.order state.catalog.pairs (ordered_as records clock state h)))
                  (sets.rulesets ∙ holds.rulesets)
                  (run_active old.database.tables state.catalog.rules id active holds.runnable) (indexed_by records clock state all h are);
            }

-- ---- a rule that is altered

abbrev walk_with : List Entry → List Rule → List (ℕ × ℕ) → AlterationText → Result Resolved Refusal
walk_with tables all pairs r =
    and_then (some_or refusal.NoRule (named all r.name)) (λ rule.
    and_then (walk_alteration (outside tables) (table_at tables rule.table).columns rule.triggers r) (λ parts.
    and_then (altered_pairs all pairs rule.id r) (λ altered.
    Ok (alter_rule (record { id = rule.id; parts = parts; pairs = altered })))))

module _ (old : Store) (index : List (List TableSets)) (r : AlterationText) (rest : IsAtRest old.phases) where
  abbrev command : text.Command
  command = text.alter_rule r

  abbrev known : List Entry
  known = entries old.database.tables

  -- the walk by what memory has
  walk_is_by : (records : List Record) (clock : ℕ) (state : State) → StandFor old records clock index state → walk state.catalog command ≡ walk_with known old.definitions.rules state.catalog.pairs r
  walk_is_by records clock state ((origin, holds), agrees) = λ i. walk_with (sym (entries_at_rest old origin state rest holds) i) (sym holds.rules i) state.catalog.pairs r

  pub not_altered : named old.definitions.rules r.name ≡ None → Defines old old index index command (Err refusal.NoRule)
  not_altered none =
      refused_here command old index refusal.NoRule
      (λ records clock state h. inl (walk_is_by records clock state h ∙ ap (λ (found : Option Rule). and_then (some_or refusal.NoRule found) (λ rule.
      and_then (walk_alteration (outside known) (table_at known rule.table).columns rule.triggers r) (λ parts.
      and_then (altered_pairs old.definitions.rules state.catalog.pairs rule.id r) (λ altered.
      Ok (alter_rule (record { id = rule.id; parts = parts; pairs = altered })))))) none))

  module _ (rule : Rule) (found : named old.definitions.rules r.name ≡ Some rule) where
    abbrev walked : Result NewParts Refusal
    walked = walk_alteration (outside known) (table_at known rule.table).columns rule.triggers r

    -- the walk by its two parts
    walk_on : (pairs : List (ℕ × ℕ)) (parts : Result NewParts Refusal) (altered : Result (List (ℕ × ℕ)) Refusal) → walked ≡ parts → altered_pairs old.definitions.rules pairs rule.id r ≡ altered
        → walk_with known old.definitions.rules pairs r ≡ and_then parts (λ p. and_then altered (λ all. Ok (alter_rule (record { id = rule.id; parts = p; pairs = all }))))
    walk_on pairs parts altered p q =
        ap (λ (x : Option Rule). and_then (some_or refusal.NoRule x) (λ rule.
        and_then (walk_alteration (outside known) (table_at known rule.table).columns rule.triggers r) (λ parts.
        and_then (altered_pairs old.definitions.rules pairs rule.id r) (λ altered.
        Ok (alter_rule (record { id = rule.id; parts = parts; pairs = altered })))))) found
        ∙ (λ i. and_then (p i) (λ p. and_then (q i) (λ all. Ok (alter_rule (record { id = rule.id; parts = p; pairs = all })))))

    pub new_parts_refused : (e : Refusal) → (walked ≡ Err e) ⊎ (e ≡ refusal.NoMemory) → Defines old old index index command (Err e)
    new_parts_refused e why = refused_here command old index e (λ records clock state h. by records clock state h why)
      where
        by : (records : List Record) (clock : ℕ) (state : State) → StandFor old records clock index state → (walked ≡ Err e) ⊎ (e ≡ refusal.NoMemory) → (walk state.catalog command ≡ Err e) ⊎ (e ≡ refusal.NoMemory)
        by records clock state h (inl w) = inl (walk_is_by records clock state h ∙ walk_on state.catalog.pairs (Err e) (altered_pairs old.definitions.rules state.catalog.pairs rule.id r) w refl)
        by records clock state h (inr m) = inr m

    module _ (parts : NewParts) (is : walked ≡ Ok parts) (new : Definitions) where
      abbrev pub IsAltered : Result (Unit {0}) Refusal → Type 0
      IsAltered result = (pairs : List (ℕ × ℕ)) → AreOrdered old.definitions.order old.definitions.rules pairs → Alters old.definitions new pairs rule.id r parts result

      order_of : (records : List Record) (clock : ℕ) (state : State) → StandFor old records clock index state → AreOrdered old.definitions.order old.definitions.rules state.catalog.pairs
      order_of records clock state ((origin, holds), agrees) = subst (λ (rs : List Rule). AreOrdered old.definitions.order rs state.catalog.pairs) (sym holds.rules) holds.ordered

      lists_refused_by : (records : List Record) (clock : ℕ) (state : State) (e : Refusal) → StandFor old records clock index state
          → (altered_pairs old.definitions.rules state.catalog.pairs rule.id r ≡ Err e) ⊎ (e ≡ refusal.NoMemory) → (walk state.catalog command ≡ Err e) ⊎ (e ≡ refusal.NoMemory)
      lists_refused_by records clock state e h (inl w) = inl (walk_is_by records clock state h ∙ walk_on state.catalog.pairs (Ok parts) (Err e) is w)
      lists_refused_by records clock state e h (inr m) = inr m

      rule_altered : AreNewPartsThere known r parts → length (unwrap_or r.actions []) ≤ 8 → (AreIndexed index old.database.id old.definitions.rules → AreIndexed index old.database.id new.rules)
          → IsAltered (Ok tt) → Defines old (record old { definitions = new }) index index command (Ok tt)
      rule_altered there few indexed made = record {
        done = λ records clock state tenant bound s h. is_done command (record old { definitions = new }) records clock index index state tenant bound s (performed records clock state h);
        id = refl;
        numbers = λ n. two_more n old.database.tables;
        others = λ n table operation id other. refl;
      }
        where
          performed : (records : List Record) (clock : ℕ) (state : State) → StandFor old records clock index state → IsPerformed command (record old { definitions = new }) records clock index state
          performed records clock state ((origin, holds), agrees) =
              let h : StandFor old records clock index state = ((origin, holds), agrees) in
              let m = made state.catalog.pairs (order_of records clock state h) in
              let altered : AlteredRule = record { id = rule.id; parts = parts; pairs = m.0 } in
              let all : List Rule = with_parts state.catalog.rules rule.id parts in
              let are : new.rules ≡ all = m.2 ∙ ap (λ (rs : List Rule). with_parts rs rule.id parts) holds.rules in
              record {
                resolved = alter_rule altered;
                catalog = with_altered state.catalog altered;
                walked = walk_is_by records clock state h ∙ walk_on state.catalog.pairs (Ok parts) (Ok m.0) is m.1;
                performed = λ tenant bound s. refl;
                stands =
                    stands_defined old records clock index index state new rest all m.0 state.catalog.rulesets h are (subst (λ (rs : List Rule). AreOrdered new.order rs m.0) are m.3) (m.4 ∙ holds.rulesets)
                    (altered_rule_runs old.database.tables state.catalog.rules rule.id r parts holds.runnable there few)
                    (subst (AreIndexed index old.database.id) are (indexed (subst (AreIndexed index old.database.id) (sym holds.rules) agrees.indexed)));
              }

      -- whichever it was; the order stands for some pairs
      pub rule_tried : AreNewPartsThere known r parts → length (unwrap_or r.actions []) ≤ 8 → (AreIndexed index old.database.id old.definitions.rules → AreIndexed index old.database.id new.rules)
          → (pairs : List (ℕ × ℕ)) × AreOrdered old.definitions.order old.definitions.rules pairs → (result : Result (Unit {0}) Refusal) → IsAltered result
          → Defines old (record old { definitions = new }) index index command result
      rule_tried there few indexed order (Ok u) made = rule_altered there few indexed made
      rule_tried there few indexed order (Err e) made =
          let same : new ≡ old.definitions = (made order.0 order.1).1 in
          subst (λ (d : Definitions). Defines old (record old { definitions = d }) index index command (Err e)) (sym same)
          (refused_here command old index e (λ records clock state h. lists_refused_by records clock state e h (made state.catalog.pairs (order_of records clock state h)).0))
