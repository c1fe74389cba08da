-- Machine: where the rules stand: under their names in order of creation, with a place for each number, and their clauses.
use Rattle.std.specs.Prelude.{◌≡◌, ℕ, Bool, ◌+◌, ◌-◌, nat_lt, if◌then◌else◌, List, [], ◌∷◌, map, slice_get, unwrap_or, Some}
use Rattle.std.specs.Map.{values_of}
use Rattle.sb_value.specs.Flags.{flag_at}
use Rattle.sb_catalog.specs.declared.clauses.RuleClauses.{RuleClauses}
use Rattle.sb_catalog.specs.declared.rule.Rule.{Rule}
use Rattle.sb_catalog.specs.Clauses.{HaveClauses}
use Rattle.sb_catalog.specs.Rules.{is_active}

-- the place that is noted for a number
abbrev pub place_at : List ℕ → ℕ → ℕ
place_at places id = unwrap_or (slice_get places id) 0

-- a place behind the gap is the one before it
abbrev pub closed : ℕ → ℕ → ℕ
closed gap place = if nat_lt gap place then place - 1 else place

-- each rule, the first of which is at place k, has its place noted
abbrev pub AreNotedFrom : ℕ → List ℕ → List Rule → Type 0
AreNotedFrom k places [] = Unit {0}
AreNotedFrom k places (r ∷ rules) = (slice_get places r.id ≡ Some k) × AreNotedFrom (k + 1) places rules

-- a rule stands under its name
abbrev pub under_name : Rule → List ℕ × Rule
under_name r = (r.name, r)

-- the set has the numbers of the active rules
abbrev pub HasActive : List Bool → List Rule → Type 0
HasActive set rules = (id : ℕ) → flag_at set id ≡ is_active rules id

-- each rule stands under its name, has its place noted and its clauses kept, and is in the set where it is active
pub record AreKept (entries : List (List ℕ × Rule)) (places : List ℕ) (set : List Bool) (clauses : List RuleClauses) : Type 0 where
  pub named : entries ≡ map under_name (values_of entries)
  pub noted : AreNotedFrom 0 places (values_of entries)
  pub active : HasActive set (values_of entries)
  pub written : HaveClauses (values_of entries) clauses
