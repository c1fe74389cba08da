-- Rules under their names.
use Rattle.std.proofs.Common.{◌≡◌, ◌∙◌, ℕ, suc, Bool, true, false, cond, List, [], ◌∷◌, ◌++◌, map, set, Option, Some, option_map, Result, slice_get, refl, sym, ap, subst}
use Rattle.std.specs.Cmp.{eq_by_cmp_equiv}
use Rattle.std.specs.Cmp.Lexicographic.{nat_list_cmp_total}
use Rattle.std.specs.List.{remove}
use Rattle.std.specs.Map.{values_of, lookup, set_value}
use Rattle.std.proofs.lemmas.List.{map-append}
use Rattle.std.proofs.lemmas.Option.{none-some, same_Some, slice_get-map}
use Rattle.indexmap.proofs.SetLemmas.{map-remove}
use Rattle.sb_value.specs.Name.{same_name}
use Rattle.sb_value.specs.declared.refusal.Refusal.{Refusal}
use Rattle.sb_value.specs.declared.refusal.Refusal.TheVariants.{NoRule}
use Rattle.sb_check.specs.Names.{some_or}
use Rattle.sb_catalog.specs.declared.clauses.RuleClauses.{RuleClauses}
use Rattle.sb_catalog.specs.declared.rule.Rule.{Rule}
use Rattle.sb_catalog.specs.Clauses.{HaveClauses}
use Rattle.sb_catalog.specs.Rules.{named, change_numbered}
use Rattle.sb_catalog.specs.Places.{under_name, AreNotedFrom, HasActive, AreKept}
use Rattle.sb_catalog.proofs.Noted.{changed}

pub values_under : (rules : List Rule) → values_of (map under_name rules) ≡ rules
values_under [] = refl
values_under (r ∷ rules) = λ i. r ∷ values_under rules i

-- what stands under names stays so
pub kept_under : (entries : List (List ℕ × Rule)) (rules : List Rule) → entries ≡ map under_name rules → entries ≡ map under_name (values_of entries)
kept_under entries rules e = e ∙ ap (map under_name) (sym (values_under rules) ∙ ap values_of (sym e))

pub lookup_named : (name : List ℕ) (rules : List Rule) → lookup (same_name name) (map under_name rules) ≡ named rules name
lookup_named name [] = refl
lookup_named name (r ∷ rules) = λ i. cond ((eq_by_cmp_equiv nat_list_cmp_total).symm name r.name i) (Some r) (lookup_named name rules i)

-- the number of a rule, or that there is none
abbrev pub numbers : Option Rule → Result ℕ Refusal
numbers found = some_or NoRule (option_map (λ r. r.id) found)

-- ---- a rule that is found by its name, and changed there

abbrev pub IsFoundAt : List ℕ → (Rule → Rule) → List Rule → Rule → Type 0
IsFoundAt name change rules r = (i : ℕ) × (slice_get rules i ≡ Some r) × (set_value (same_name name) (map under_name rules) (change r) ≡ map under_name (set rules i (change r)))

module _ (name : List ℕ) (change : Rule → Rule) (keeps : (r : Rule) → (change r).name ≡ r.name) where
  found_by : (s : Rule) (rules : List Rule) (r : Rule) (b : Bool) → same_name name s.name ≡ b → cond b (Some s) (lookup (same_name name) (map under_name rules)) ≡ Some r →
      (lookup (same_name name) (map under_name rules) ≡ Some r → IsFoundAt name change rules r) → IsFoundAt name change (s ∷ rules) r
  found_by s rules r true p e rest =
      let same = same_Some s r e in (
        0,
        e,
        (λ i. cond (p i) ((s.name, change r) ∷ map under_name rules) (under_name s ∷ set_value (same_name name) (map under_name rules) (change r)))
            ∙ (λ i. ((ap (λ (x : Rule). x.name) same ∙ sym (keeps r)) i, change r) ∷ map under_name rules),
      )
  found_by s rules r false p e rest =
      let later = rest e in (
        suc later.0,
        later.1,
        (λ i. cond (p i) ((s.name, change r) ∷ map under_name rules) (under_name s ∷ set_value (same_name name) (map under_name rules) (change r)))
            ∙ (λ i. under_name s ∷ later.2 i),
      )

  found_at : (rules : List Rule) (r : Rule) → lookup (same_name name) (map under_name rules) ≡ Some r → IsFoundAt name change rules r
  found_at [] r e = absurd (none-some r e)
  found_at (s ∷ rules) r e = found_by s rules r (same_name name s.name) refl e (found_at rules r)

  -- what is written through the name is the rule with that number changed
  pub written : (places : List ℕ) (flags : List Bool) (entries : List (List ℕ × Rule)) (r : Rule) {clauses : List RuleClauses} → AreKept entries places flags clauses → lookup (same_name name) entries ≡ Some r →
      set_value (same_name name) entries (change r) ≡ map under_name (map (change_numbered r.id change) (values_of entries))
  written places flags entries r h e =
      let rules : List Rule = values_of entries in
      let f = found_at rules r (ap (lookup (same_name name)) (sym h.named) ∙ e) in
      ap (λ es. set_value (same_name name) es (change r)) h.named ∙ f.2 ∙ ap (map under_name) (sym (changed places change 0 f.0 rules r h.noted f.1))

pub kept_with : (places : List ℕ) (flags : List Bool) (entries : List (List ℕ × Rule)) (clauses : List RuleClauses) (rules : List Rule) → entries ≡ map under_name rules → AreNotedFrom 0 places rules → HasActive flags rules → HaveClauses rules clauses →
    AreKept entries places flags clauses
kept_with places flags entries clauses rules e h a w =
    let same : values_of entries ≡ rules = ap values_of e ∙ values_under rules in
    record { named = kept_under entries rules e; noted = subst (AreNotedFrom 0 places) (sym same) h; active = subst (HasActive flags) (sym same) a; written = subst (λ (all : List Rule). HaveClauses all clauses) (sym same) w }

pub values_with : (entries : List (List ℕ × Rule)) (rules : List Rule) → entries ≡ map under_name rules → values_of entries ≡ rules
values_with entries rules e = ap values_of e ∙ values_under rules

-- the rule of an entry
pub rule_at : (entries : List (List ℕ × Rule)) (i : ℕ) (e : List ℕ × Rule) → slice_get entries i ≡ Some e → slice_get (values_of entries) i ≡ Some e.1
rule_at entries i e h = slice_get-map (λ (x : List ℕ × Rule). x.1) entries i ∙ ap (option_map (λ (x : List ℕ × Rule). x.1)) h

-- the rules but for the one at a place
pub entries_without : (entries : List (List ℕ × Rule)) (i : ℕ) → entries ≡ map under_name (values_of entries) → remove entries i ≡ map under_name (remove (values_of entries) i)
entries_without entries i e = ap (λ (es : List (List ℕ × Rule)). remove es i) e ∙ sym (map-remove under_name (values_of entries) i)

-- one rule more
pub entries_with : (entries : List (List ℕ × Rule)) (r : Rule) → entries ≡ map under_name (values_of entries) → entries ++ under_name r ∷ [] ≡ map under_name (values_of entries ++ r ∷ [])
entries_with entries r e = ap (λ (es : List (List ℕ × Rule)). es ++ under_name r ∷ []) e ∙ sym (map-append under_name (values_of entries) (r ∷ []))

-- a rule that is found by its name stands at some place
pub placed : (name : List ℕ) (rules : List Rule) (r : Rule) → named rules name ≡ Some r → (i : ℕ) × (slice_get rules i ≡ Some r)
placed name [] r e = absurd (none-some r e)
placed name (s ∷ rules) r e = by (same_name s.name name) e (placed name rules r)
  where
    by : (b : Bool) → cond b (Some s) (named rules name) ≡ Some r → (named rules name ≡ Some r → (i : ℕ) × (slice_get rules i ≡ Some r)) → (i : ℕ) × (slice_get (s ∷ rules) i ≡ Some r)
    by true f rest = (0, f)
    by false f rest = let later = rest f in (suc later.0, later.1)
