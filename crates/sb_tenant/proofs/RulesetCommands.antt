-- Other rulesets.
use Rattle.std.proofs.Common.{◌≡◌, ◌∙◌, ◌⊎◌, ℕ, Bool, true, false, List, refl, sym, ap, subst, inl, inr}
use Rattle.std.specs.Prelude.{Option, None, Some, Result, Ok, Err, unwrap_or, OnOk, IfErr, OnErr, IsTrue, IsFalse}
use Rattle.sb_tenant.specs.declared.bound.Bound.{Bound}
use Rattle.sb_value.specs.declared.refusal.Refusal.{Refusal}
use Rattle.sb_value.specs.declared.refusal.Refusal.TheVariants as refusal
use Rattle.sb_syntax.specs.Tree.{Command}
use Rattle.sb_syntax.specs.Tree as text
use Rattle.sb_check.specs.Names.{and_then, required}
use Rattle.sb_rawlog.specs.Records.{Record}
use Rattle.sb_index.specs.TableSets.{TableSets}
use Rattle.sb_catalog.specs.declared.members.MemberChange.{MemberChange}
use Rattle.sb_catalog.specs.declared.members.MemberChange.TheVariants.{Added, Taken}
use Rattle.sb_catalog.specs.Members.{changed_members, with_rules, without_rules}
use Rattle.sb_catalog.specs.Ruleset.{Ruleset}
use Rattle.sb_catalog.specs.Sets.{has_name, create_refusal, created, without_set, changed}
use Rattle.sb_catalog.specs.Definitions.{ChangesMembers, members_named, rules_named}
use Rattle.sb_catalog.specs.declared.definitions.Definitions.{Definitions}
use Rattle.sb_catalog.specs.declared.rule.Rule.{Rule}
use Rattle.sb_tenant.specs.declared.reply.Reply.TheVariants as reply
use Rattle.sb_tenant.specs.declared.store.Store.{Store}
use Rattle.sb_tenant.specs.Defining.{Defines, IsAtRest, member_command}
use Rattle.sb_tenant.specs.Perform.{perform}
use Rattle.sb_tenant.specs.Represents.{StandFor}
use Rattle.sb_tenant.specs.Resolved.{Resolved, create_ruleset, drop_ruleset, add_rules, del_rules}
use Rattle.sb_tenant.specs.State.{State}
use Rattle.sb_tenant.specs.Walk.{unless, walk}
use Rattle.sb_tenant.proofs.Defining.{two_more, refused_here, is_done}
use Rattle.sb_tenant.proofs.RuleCommands.{stands_defined}

sets_are : (store : Store) (records : List Record) (clock : ℕ) (index : List (List TableSets)) (state : State) → StandFor store records clock index state → store.definitions.rulesets ≡ state.catalog.rulesets
sets_are store records clock index state h = h.0.1.rulesets

rules_are : (store : Store) (records : List Record) (clock : ℕ) (index : List (List TableSets)) (state : State) → StandFor store records clock index state → store.definitions.rules ≡ state.catalog.rules
rules_are store records clock index state h = h.0.1.rules

abbrev pub with_sets : Store → List Ruleset → Store
with_sets store sets = record store { definitions = record store.definitions { rulesets = sets } }

module _ (old : Store) (index : List (List TableSets)) (command : Command) where
  -- the walk by the rulesets and the rules that memory has
  module _ (walked : List Ruleset → List Rule → Result Resolved Refusal) (walks : (state : State) → walk state.catalog command ≡ walked state.catalog.rulesets state.catalog.rules) where
    walk_here : (records : List Record) (clock : ℕ) (state : State) → StandFor old records clock index state → walk state.catalog command ≡ walked old.definitions.rulesets old.definitions.rules
    walk_here records clock state h = walks state ∙ (λ i. walked (sym (sets_are old records clock index state h) i) (sym (rules_are old records clock index state h) i))

    pub not_set : (e : Refusal) → (walked old.definitions.rulesets old.definitions.rules ≡ Err e) ⊎ (e ≡ refusal.NoMemory) → Defines old old index index command (Err e)
    not_set e why = refused_here command old index e (λ records clock state h. by records clock state h why)
      where
        by : (records : List Record) (clock : ℕ) (state : State) → StandFor old records clock index state → (walked old.definitions.rulesets old.definitions.rules ≡ Err e) ⊎ (e ≡ refusal.NoMemory)
            → (walk state.catalog command ≡ Err e) ⊎ (e ≡ refusal.NoMemory)
        by records clock state h (inl w) = inl (walk_here records clock state h ∙ w)
        by records clock state h (inr m) = inr m

    pub is_set : IsAtRest old.phases → (change : List Ruleset → List Ruleset) (form : Resolved) → walked old.definitions.rulesets old.definitions.rules ≡ Ok form
        → ((tenant : ℕ) (bound : Bound) (s : ℕ) (state : State) → perform tenant bound state s form ≡ (record state { catalog = record state.catalog { rulesets = change state.catalog.rulesets } }, reply.Ok))
        → Defines old (with_sets old (change old.definitions.rulesets)) index index command (Ok tt)
    is_set rest change form w performs = record {
      done = λ records clock state tenant bound s h.
          is_done command (with_sets old (change old.definitions.rulesets)) records clock index index state tenant bound s
          (record {
            resolved = form;
            catalog = record state.catalog { rulesets = change state.catalog.rulesets };
            walked = walk_here records clock state h ∙ w;
            performed = λ tenant bound s. performs tenant bound s state;
            stands =
                stands_defined old records clock index index state (record old.definitions { rulesets = change old.definitions.rulesets }) rest state.catalog.rules state.catalog.pairs (change state.catalog.rulesets) h
                h.0.1.rules h.0.1.ordered (ap change h.0.1.rulesets) h.0.1.runnable h.1.indexed;
          });
      id = refl;
      numbers = λ n. two_more n old.database.tables;
      others = λ n table operation id other. refl;
    }

-- ---- each command

why_not : (o : Option Refusal) (form : Resolved) (e : Refusal) → e ≡ unwrap_or o refusal.NoMemory → (unless o (Ok form) ≡ Err e) ⊎ (e ≡ refusal.NoMemory)
why_not None form e h = inr h
why_not (Some r) form e h = inl (ap (λ (x : Refusal). Err x) (sym h))

module _ (old : Store) (index : List (List TableSets)) (name : List ℕ) where
  abbrev walk_create : List Ruleset → List Rule → Result Resolved Refusal
  walk_create sets rules = unless (create_refusal sets name) (Ok (create_ruleset name))

  pub not_created : (e : Refusal) → e ≡ unwrap_or (create_refusal old.definitions.rulesets name) refusal.NoMemory → Defines old old index index (text.create_ruleset name) (Err e)
  not_created e h = not_set old index (text.create_ruleset name) walk_create (λ state. refl) e (why_not (create_refusal old.definitions.rulesets name) (create_ruleset name) e h)

  pub set_created : IsAtRest old.phases → create_refusal old.definitions.rulesets name ≡ None → Defines old (with_sets old (created old.definitions.rulesets name)) index index (text.create_ruleset name) (Ok tt)
  set_created rest free =
      is_set old index (text.create_ruleset name) walk_create (λ state. refl) rest (λ sets. created sets name) (create_ruleset name) (ap (λ (o : Option Refusal). unless o (Ok (create_ruleset name))) free) (λ tenant bound s state. refl)

  abbrev walk_drop : List Ruleset → List Rule → Result Resolved Refusal
  walk_drop sets rules = required (has_name sets name) refusal.NoRuleset (Ok (drop_ruleset name))

  pub not_dropped : (e : Refusal) → e ≡ refusal.NoRuleset → has_name old.definitions.rulesets name ≡ false → Defines old old index index (text.drop_ruleset name) (Err e)
  not_dropped e h none =
      not_set old index (text.drop_ruleset name) walk_drop (λ state. refl) e
      (inl (ap (λ (b : Bool). required b refusal.NoRuleset (Ok (drop_ruleset name))) none ∙ ap (λ (x : Refusal). Err x) (sym h)))

  pub set_dropped : IsAtRest old.phases → has_name old.definitions.rulesets name ≡ true → Defines old (with_sets old (without_set old.definitions.rulesets name)) index index (text.drop_ruleset name) (Ok tt)
  set_dropped rest there =
      is_set old index (text.drop_ruleset name) walk_drop (λ state. refl) rest (λ sets. without_set sets name) (drop_ruleset name) (ap (λ (b : Bool). required b refusal.NoRuleset (Ok (drop_ruleset name))) there) (λ tenant bound s state. refl)

  -- whichever it was
  pub set_made : (sets : List Ruleset) → IsAtRest old.phases → (result : Result (Unit {0}) Refusal) → OnOk result (sets ≡ created old.definitions.rulesets name)
      → OnOk result (create_refusal old.definitions.rulesets name ≡ None) → IfErr result (λ e. e ≡ unwrap_or (create_refusal old.definitions.rulesets name) refusal.NoMemory)
      → OnErr result (sets ≡ old.definitions.rulesets) → Defines old (with_sets old sets) index index (text.create_ruleset name) result
  set_made sets rest (Ok u) made free why same =
      subst (λ (x : List Ruleset). Defines old (with_sets old x) index index (text.create_ruleset name) (Ok u)) (sym made) (set_created rest free)
  set_made sets rest (Err e) made free why same =
      subst (λ (x : List Ruleset). Defines old (with_sets old x) index index (text.create_ruleset name) (Err e)) (sym same) (not_created e why)

  pub set_left : (sets : List Ruleset) → IsAtRest old.phases → (result : Result (Unit {0}) Refusal) → OnOk result (IsTrue (has_name old.definitions.rulesets name))
      → OnOk result (sets ≡ without_set old.definitions.rulesets name) → IfErr result (λ e. (e ≡ refusal.NoRuleset) × IsFalse (has_name old.definitions.rulesets name))
      → OnErr result (sets ≡ old.definitions.rulesets) → Defines old (with_sets old sets) index index (text.drop_ruleset name) result
  set_left sets rest (Ok u) there left why same =
      subst (λ (x : List Ruleset). Defines old (with_sets old x) index index (text.drop_ruleset name) (Ok u)) (sym left) (set_dropped rest there)
  set_left sets rest (Err e) there left why same =
      subst (λ (x : List Ruleset). Defines old (with_sets old x) index index (text.drop_ruleset name) (Err e)) (sym same) (not_dropped e why.0 why.1)

-- the members of a ruleset, by a command that the walk resolves to this form
module _ (old new : Store) (index : List (List TableSets)) (name : List ℕ) (rules : List (List ℕ)) (command : Command) (change : List Bool → List ℕ → List Bool) (form : List ℕ → Resolved)
    (walks : (state : State) → walk state.catalog command ≡ required (has_name state.catalog.rulesets name) refusal.NoRuleset (and_then (rules_named state.catalog.rules rules) (λ ids. Ok (form ids))))
    (performs : (tenant : ℕ) (bound : Bound) (s : ℕ) (state : State) (ids : List ℕ)
    → perform tenant bound state s (form ids) ≡ (record state { catalog = record state.catalog { rulesets = changed (λ set. change set ids) state.catalog.rulesets name } }, reply.Ok)) where
  abbrev walk_members : List Ruleset → List Rule → Result Resolved Refusal
  walk_members sets all = required (has_name sets name) refusal.NoRuleset (and_then (rules_named all rules) (λ ids. Ok (form ids)))

  resolves : (b : Bool) (ids : Result (List ℕ) Refusal) (meant : Result (List ℕ) Refusal) → required b refusal.NoRuleset ids ≡ meant
      → required b refusal.NoRuleset (and_then ids (λ ids. Ok (form ids))) ≡ and_then meant (λ ids. Ok (form ids))
  resolves true ids meant h = ap (λ (r : Result (List ℕ) Refusal). and_then r (λ ids. Ok (form ids))) h
  resolves false ids meant h = ap (λ (r : Result (List ℕ) Refusal). and_then r (λ ids. Ok (form ids))) h

  abbrev meant : Result (List ℕ) Refusal
  meant = members_named old.definitions.rulesets old.definitions.rules name rules

  pub members_changed : IsAtRest old.phases → (result : Result (Unit {0}) Refusal) → ChangesMembers change old.definitions new.definitions name meant result
      → new ≡ record old { definitions = new.definitions } → Defines old new index index command result
  members_changed rest (Ok u) (ids, m, d) same =
      let P : Store → Type 0 = λ store. Defines old store index index command (Ok u) in
      subst P (sym (same ∙ ap (λ (x : Definitions). record old { definitions = x }) d))
      (is_set old index command walk_members walks rest (λ sets. changed (λ set. change set ids) sets name) (form ids)
      (resolves (has_name old.definitions.rulesets name) (rules_named old.definitions.rules rules) (Ok ids) m) (λ tenant bound s state. performs tenant bound s state ids))
  members_changed rest (Err e) (why, d) same =
      let P : Store → Type 0 = λ store. Defines old store index index command (Err e) in
      subst P (sym (same ∙ ap (λ (x : Definitions). record old { definitions = x }) d)) (not_set old index command walk_members walks e (by why))
    where
      by : (meant ≡ Err e) ⊎ (e ≡ refusal.NoMemory) → (walk_members old.definitions.rulesets old.definitions.rules ≡ Err e) ⊎ (e ≡ refusal.NoMemory)
      by (inl w) = inl (resolves (has_name old.definitions.rulesets name) (rules_named old.definitions.rules rules) (Err e) w)
      by (inr m) = inr m

-- by the command that adds them, or takes them
pub members_by : (old new : Store) (index : List (List TableSets)) (name : List ℕ) (rules : List (List ℕ)) (change : MemberChange) → IsAtRest old.phases → (result : Result (Unit {0}) Refusal)
    → ChangesMembers (changed_members change) old.definitions new.definitions name (members_named old.definitions.rulesets old.definitions.rules name rules) result
    → new ≡ record old { definitions = new.definitions } → Defines old new index index (member_command change name rules) result
members_by old new index name rules Added = members_changed old new index name rules (text.add_rules name rules) with_rules (add_rules name) (λ state. refl) (λ tenant bound s state ids. refl)
members_by old new index name rules Taken = members_changed old new index name rules (text.del_rules name rules) without_rules (del_rules name) (λ state. refl) (λ tenant bound s state ids. refl)
