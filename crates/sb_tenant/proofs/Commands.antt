-- The walk of a command over a catalog with renumbered tables, in whatever order the pairs stand: the same command, but for that order.
use Rattle.std.proofs.Common.{◌≡◌, ◌∙◌, ℕ, Bool, true, false, not, nat_lt, List, [], map, Result, Ok, Err, refl, sym, subst}
use Rattle.std.proofs.lemmas.List.{length-map}
use Rattle.sb_value.specs.declared.refusal.Refusal.{Refusal}
use Rattle.sb_value.specs.declared.refusal.Refusal.TheVariants as refusal
use Rattle.sb_value.specs.Laws.{PrecedesIsClosure}
use Rattle.sb_value.specs.declared.value.ColumnDefinition.{ColumnDefinition}
use Rattle.sb_value.specs.Table.{Entry, table_at}
use Rattle.sb_syntax.specs.Tree.{Name, Command, RuleText, AlterationText}
use Rattle.sb_syntax.specs.Tree as text
use Rattle.sb_check.specs.Names.{and_then, required, some_or}
use Rattle.sb_check.specs.Walk.{Schema, walk_query, walk_statement}
use Rattle.sb_check.specs.RuleParts.{Parts, NewParts, walk_alteration}
use Rattle.sb_catalog.specs.declared.rule.Rule.{Rule}
use Rattle.sb_catalog.specs.Definitions.{altered_pairs}
use Rattle.sb_catalog.specs.Rules.{has_name, named, rule_named}
use Rattle.sb_catalog.specs.Uses.{is_used}
use Rattle.sb_catalog.specs.Sets as rulesets
use Rattle.sb_tenant.specs.Limits.{table_limit}
use Rattle.sb_tenant.specs.State.{Catalog}
use Rattle.sb_tenant.specs.Resolved.{defines, Resolved, process_ruleset, process_rule, create_table, drop_table, create_rule, alter_rule, query, change}
use Rattle.sb_tenant.specs.Walk.{outside_rules, walk_lists, walk_new_parts, class_of, walk}
use Rattle.sb_tenant.specs.Alike.{HaveSamePairs}
use Rattle.sb_tenant.specs.AlikeTenants.{Numbering, renumbered_entry}
use Rattle.sb_tenant.proofs.Pairs.{AreSame, then-same, then-alike, new-same, altered-pairs-same}
use Rattle.sb_tenant.proofs.AlikeWalks.{columns_at, after_named, query_same, statement_same, parts_same, alteration_same, names_same}

-- the same command, but for the order of an altered rule's pairs
pub data IsSame : Resolved → Resolved → Type 0 where
  is_same : {r : Resolved} → IsSame r r
  is_altered : {id : ℕ} {parts : NewParts} {ps qs : List (ℕ × ℕ)} → HaveSamePairs ps qs →
      IsSame (alter_rule (record { id = id; parts = parts; pairs = ps })) (alter_rule (record { id = id; parts = parts; pairs = qs }))

itself : (r : Result Resolved Refusal) → AreSame IsSame r r
itself (Ok a) = is_same
itself (Err e) = refl

equal : (r s : Result Resolved Refusal) → r ≡ s → AreSame IsSame r s
equal r s e = subst (λ x. AreSame IsSame x s) (sym e) (itself s)

module _ (law : PrecedesIsClosure) (n : Numbering) (one : Catalog) (pairs : List (ℕ × ℕ)) (same : HaveSamePairs pairs one.pairs) where
  abbrev other : Catalog
  other = record { tables = map (renumbered_entry n) one.tables; rules = one.rules; rulesets = one.rulesets; pairs = pairs }

  abbrev schema : Schema
  schema = outside_rules one

  -- ---- rules

  lists-same : (r : RuleText) (parts : Parts) → walk_lists other r parts ≡ walk_lists one r parts
  lists-same r parts = λ i.
      and_then (new-same law pairs one.pairs same one.rules r.precedes r.follows i) (λ new.
      Ok (create_rule (record { name = r.name; parts = parts; pairs = new })))

  new_parts-same : (r : AlterationText) (rule : Rule) → AreSame IsSame (walk_new_parts other r rule) (walk_new_parts one r rule)
  new_parts-same r rule =
      subst (λ w. AreSame IsSame (and_then w (altered pairs)) (walk_new_parts one r rule)) (sym walks)
      (then-same IsSame (walk_alteration schema columns rule.triggers r) (altered pairs) (altered one.pairs) (λ parts.
      then-alike HaveSamePairs IsSame (altered_pairs one.rules pairs rule.id r) (altered_pairs one.rules one.pairs rule.id r) (made parts) (made parts)
      (altered-pairs-same law one.rules pairs one.pairs same rule.id r) (λ ps qs h. is_altered h)))
    where
      made : NewParts → List (ℕ × ℕ) → Result Resolved Refusal
      made parts all = Ok (alter_rule (record { id = rule.id; parts = parts; pairs = all }))

      altered : List (ℕ × ℕ) → NewParts → Result Resolved Refusal
      altered ps parts = and_then (altered_pairs one.rules ps rule.id r) (made parts)

      columns : List ColumnDefinition
      columns = (table_at one.tables rule.table).columns

      walks : walk_alteration (outside_rules other) (table_at other.tables rule.table).columns rule.triggers r ≡ walk_alteration schema columns rule.triggers r
      walks =
          (λ i. walk_alteration (outside_rules other) (columns_at n one.tables rule.table i) rule.triggers r)
          ∙ alteration_same n schema columns rule.triggers r

  -- ---- all commands

  pub walk-same : (c : Command) → AreSame IsSame (walk other c) (walk one c)
  walk-same (text.create_table name columns) =
      equal (walk other (text.create_table name columns)) (walk one (text.create_table name columns)) (λ i.
      and_then (names_same n schema (text.create_table name columns) i) (λ _.
      required (nat_lt (length-map one.tables (renumbered_entry n) i) table_limit) refusal.TooManyTables (Ok (create_table name columns))))
  walk-same (text.drop_table name) =
      equal (walk other (text.drop_table name)) (walk one (text.drop_table name)) (after_named n schema name next next (λ e. refl))
    where
      next : Entry → Result Resolved Refusal
      next e = required (not (is_used one.rules e.id)) refusal.TableInUse (Ok (drop_table e.id))
  walk-same (text.create_rule r) =
      equal (walk other (text.create_rule r)) (walk one (text.create_rule r)) (λ i.
      required (not (has_name one.rules r.name)) refusal.RuleExists
      (and_then (parts_same n schema r i) (λ parts. lists-same r parts i)))
  walk-same (text.alter_rule r) = then-same IsSame (some_or refusal.NoRule (named one.rules r.name)) (walk_new_parts other r) (walk_new_parts one r) (new_parts-same r)
  walk-same (text.query q) =
      equal (walk other (text.query q)) (walk one (text.query q)) (λ i. and_then (query_same n schema q [] i) (λ w. Ok (query w.0)))
  walk-same (text.change c) =
      equal (walk other (text.change c)) (walk one (text.change c)) (λ i. and_then (statement_same n schema c i) (λ s. Ok (change s)))
  walk-same c = itself (walk one c)

-- ---- a table goes only by a command that defines something

abbrev pub Fits : Type 0 → Resolved → Type 0
Fits Calm (drop_table id) = Calm
Fits Calm _ = Unit {0}

abbrev pub Gives : Type 0 → Result Resolved Refusal → Type 0
Gives Calm (Ok r) = Fits Calm r
Gives Calm (Err e) = Unit {0}

module _ (Calm : Type 0) where
  fits : Calm → (r : Resolved) → Fits Calm r
  fits calm (drop_table id) = calm
  fits calm _ = tt

  gives : Calm → (w : Result Resolved Refusal) → Gives Calm w
  gives calm (Ok r) = fits calm r
  gives calm (Err e) = tt

  gives-required : (b : Bool) (e : Refusal) (next : Result Resolved Refusal) → Gives Calm next → Gives Calm (required b e next)
  gives-required true e next f = f
  gives-required false e next f = tt

  gives-then : {A : Type 0} (r : Result A Refusal) (next : A → Result Resolved Refusal) → ((a : A) → Gives Calm (next a)) → Gives Calm (and_then r next)
  gives-then (Ok a) next f = f a
  gives-then (Err e) next f = tt

  pub gives-walk : (catalog : Catalog) (c : Command) → (class_of c ≡ defines → Calm) → Gives Calm (walk catalog c)
  gives-walk catalog text.open_session calm = tt
  gives-walk catalog text.end_session calm = tt
  gives-walk catalog text.begin calm = tt
  gives-walk catalog text.commit calm = tt
  gives-walk catalog text.rollback calm = tt
  gives-walk catalog text.process_rules calm = tt
  gives-walk catalog (text.process_ruleset name) calm = gives-required (rulesets.has_name catalog.rulesets name) refusal.NoRuleset (Ok (process_ruleset name)) tt
  gives-walk catalog (text.process_rule name) calm = gives-then (rule_named catalog.rules name) (λ id. Ok (process_rule id)) (λ id. tt)
  gives-walk catalog (text.query q) calm = gives-then (walk_query (outside_rules catalog) q []) (λ w. Ok (query w.0)) (λ w. tt)
  gives-walk catalog (text.change c) calm = gives-then (walk_statement (outside_rules catalog) c) (λ s. Ok (change s)) (λ s. tt)
  gives-walk catalog c calm = gives (calm refl) (walk catalog c)
