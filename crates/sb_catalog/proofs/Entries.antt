-- Rulesets as the entries of a map.
use Rattle.std.proofs.lemmas.Bool.{or_parts}
use Rattle.std.proofs.Common.{◌≡◌, ◌∙◌, ℕ, zero, suc, Bool, true, false, not, ◌||◌, cond, List, [], ◌∷◌, map, find, set, get_or, Option, Some, None, option_map, is_some, slice_get, slice_set, refl, sym, ap}
use Rattle.std.specs.Cmp.{eq_by_cmp_equiv}
use Rattle.std.specs.Cmp.Lexicographic.{nat_list_cmp_total}
use Rattle.std.specs.List.{list_any}
use Rattle.std.specs.Map.{values_of, lookup, set_value, remove_entry}
use Rattle.std.proofs.lemmas.Option.{none-some, same_Some}
use Rattle.indexmap.specs.IndexMap.{set_value_at}
use Rattle.sb_value.specs.Name.{same_name}
use Rattle.sb_catalog.specs.Ruleset.{Ruleset}
use Rattle.sb_catalog.specs.Distinct.{AreDistinct}
use Rattle.sb_catalog.specs.Ruleset.{set_of}
use Rattle.sb_catalog.specs.Sets.{has_name, without_set, changed, members_of, without_rule}

abbrev pub Entry : Type 0
Entry = List ℕ × List Bool

-- the test of a name, the other way round
pub turned : (a b : List ℕ) → same_name a b ≡ same_name b a
turned a b = (eq_by_cmp_equiv nat_list_cmp_total).symm a b

alike : (a b c : List ℕ) → same_name a b ≡ true → same_name a c ≡ same_name b c
alike a b c h = (eq_by_cmp_equiv nat_list_cmp_total).congr a b c h

some_by : (b : Bool) (rules : List Bool) (rest : Option (List Bool)) → is_some (cond b (Some rules) rest) ≡ (b || is_some rest)
some_by true rules rest = refl
some_by false rules rest = refl

pub some_named : (name : List ℕ) (es : List Entry) → is_some (lookup (same_name name) es) ≡ has_name (map set_of es) name
some_named name [] = refl
some_named name (e ∷ es) = some_by (same_name name e.0) e.1 (lookup (same_name name) es) ∙ (λ i. turned name e.0 i || some_named name es i)

found_by : (b : Bool) (s : Ruleset) (rest : Option Ruleset) → cond b (Some s.rules) (option_map (λ t. t.rules) rest) ≡ option_map (λ t. t.rules) (cond b (Some s) rest)
found_by true s rest = refl
found_by false s rest = refl

pub found : (name : List ℕ) (es : List Entry) → lookup (same_name name) es ≡ members_of (map set_of es) name
found name [] = refl
found name (e ∷ es) =
    (λ i. cond (turned name e.0 i) (Some e.1) (found name es i))
    ∙ found_by (same_name e.0 name) (set_of e) (find (λ s. same_name s.name name) (map set_of es))

-- ---- a name that a ruleset has is no later one's

later : (name first : List ℕ) (sets : List Ruleset) → same_name name first ≡ true → list_any (λ t. same_name first t.name) sets ≡ false → list_any (λ t. same_name t.name name) sets ≡ false
later name first [] h e = refl
later name first (t ∷ sets) h e =
    (λ i. (turned t.name name ∙ alike name first t.name h) i || list_any (λ s. same_name s.name name) sets)
    ∙ (λ i. (or_parts (same_name first t.name) (list_any (λ s. same_name first s.name) sets) e).0 i || list_any (λ s. same_name s.name name) sets)
    ∙ later name first sets h (or_parts (same_name first t.name) (list_any (λ s. same_name first s.name) sets) e).1

unnamed_stays : (name : List ℕ) (change : List Bool → List Bool) (sets : List Ruleset) → list_any (λ t. same_name t.name name) sets ≡ false → changed change sets name ≡ sets
unnamed_stays name change [] e = refl
unnamed_stays name change (s ∷ sets) e =
    let other = (or_parts (same_name s.name name) (list_any (λ t. same_name t.name name) sets) e).0 in
    let rest = unnamed_stays name change sets (or_parts (same_name s.name name) (list_any (λ t. same_name t.name name) sets) e).1 in
    λ i. cond (other i) (record s { rules = change s.rules }) s ∷ rest i

unnamed_kept : (name : List ℕ) (sets : List Ruleset) → list_any (λ t. same_name t.name name) sets ≡ false → without_set sets name ≡ sets
unnamed_kept name [] e = refl
unnamed_kept name (s ∷ sets) e =
    let other = (or_parts (same_name s.name name) (list_any (λ t. same_name t.name name) sets) e).0 in
    let rest = unnamed_kept name sets (or_parts (same_name s.name name) (list_any (λ t. same_name t.name name) sets) e).1 in
    λ i. cond (not (other i)) (s ∷ rest i) (rest i)

-- ---- what is written through a name, and what is taken out by it

module _ (name : List ℕ) (change : List Bool → List Bool) (value : List Bool) where
  written_by : (e : Entry) (es : List Entry) (b : Bool) → same_name name e.0 ≡ b → AreDistinct (map set_of (e ∷ es)) → cond b (Some e.1) (lookup (same_name name) es) ≡ Some value →
      (lookup (same_name name) es ≡ Some value → map set_of (set_value (same_name name) es (change value)) ≡ changed change (map set_of es) name) →
      map set_of (cond b ((e.0, change value) ∷ es) (e ∷ set_value (same_name name) es (change value))) ≡ cond b (record (set_of e) { rules = change e.1 }) (set_of e) ∷ changed change (map set_of es) name
  written_by e es true p d h rest =
      let same = sym (same_Some e.1 value h) in
      let rest = sym (unnamed_stays name change (map set_of es) (later name e.0 (map set_of es) p d.0)) in
      λ i. record (set_of e) { rules = change (same i) } ∷ rest i
  written_by e es false p d h rest = λ i. set_of e ∷ rest h i

  pub written : (es : List Entry) → AreDistinct (map set_of es) → lookup (same_name name) es ≡ Some value →
      map set_of (set_value (same_name name) es (change value)) ≡ changed change (map set_of es) name
  written [] d h = refl
  written (e ∷ es) d h =
      written_by e es (same_name name e.0) refl d h (written es d.1)
      ∙ (λ i. cond (turned name e.0 i) (record (set_of e) { rules = change e.1 }) (set_of e) ∷ changed change (map set_of es) name)

taken_by : (name : List ℕ) (e : Entry) (es : List Entry) (b : Bool) → same_name name e.0 ≡ b → AreDistinct (map set_of (e ∷ es)) →
    map set_of (remove_entry (same_name name) es) ≡ without_set (map set_of es) name →
    map set_of (cond b es (e ∷ remove_entry (same_name name) es)) ≡ cond (not b) (set_of e ∷ without_set (map set_of es) name) (without_set (map set_of es) name)
taken_by name e es true p d rest = sym (unnamed_kept name (map set_of es) (later name e.0 (map set_of es) p d.0))
taken_by name e es false p d rest = λ i. set_of e ∷ rest i

pub taken : (name : List ℕ) (es : List Entry) → AreDistinct (map set_of es) → map set_of (remove_entry (same_name name) es) ≡ without_set (map set_of es) name
taken name [] d = refl
taken name (e ∷ es) d =
    taken_by name e es (same_name name e.0) refl d (taken name es d.1)
    ∙ (λ i. cond (not (turned name e.0 i)) (set_of e ∷ without_set (map set_of es) name) (without_set (map set_of es) name))

-- ---- the rule is taken out of each

abbrev pub lacks : ℕ → Entry → Entry
lacks rule e = (e.0, slice_set e.1 rule false)

-- ---- what a look-up tells of the names

pub named_as : (name : List ℕ) (es : List Entry) (sets : List Ruleset) (looked : Option (List Bool)) → looked ≡ lookup (same_name name) es → map set_of es ≡ sets → has_name sets name ≡ is_some looked
named_as name es sets looked e v = ap (λ (l : List Ruleset). has_name l name) (sym v) ∙ sym (some_named name es) ∙ ap is_some (sym e)

pub no_value : (looked : Option (List Bool)) → is_some looked ≡ false → looked ≡ None
no_value None e = refl
no_value (Some rules) e = absurd (cc)

pub value_at : (es : List Entry) (i : ℕ) (rules : List Bool) (d : Entry) → set_value_at es i rules ≡ set es i ((get_or es i d).0, rules)
value_at [] i rules d = refl
value_at (e ∷ es) zero rules d = refl
value_at (e ∷ es) (suc i) rules d = λ j. e ∷ value_at es i rules d j

pub lacking_set : (rule : ℕ) (es : List Entry) → map set_of (map (lacks rule) es) ≡ without_rule (map set_of es) rule
lacking_set rule [] = refl
lacking_set rule (e ∷ es) = λ j. set_of (lacks rule e) ∷ lacking_set rule es j

pub value_read : (es : List Entry) (i : ℕ) (rules : List Bool) (d : Entry) → slice_get (values_of es) i ≡ Some rules → rules ≡ (get_or es i d).1
value_read [] i rules d h = absurd (none-some rules h)
value_read (e ∷ es) zero rules d h = sym (same_Some e.1 rules h)
value_read (e ∷ es) (suc i) rules d h = value_read es i rules d h
