-- Machine: rules in order of creation, kept as the first places of an array beside the set of them and the place of each.
use Rattle.std.specs.Prelude.{◌≡◌, ◌≤◌, ◌<◌, ℕ, Bool, false, ◌==◌, List, length, take, slice_index}
use Rattle.std.specs.List.{list_any}
use Rattle.sb_value.specs.Flags.{flag_at}
use Rattle.sb_value.specs.Limits.{rule_limit}

-- the set has the rules in the first places, which are at most all, and each rule's place is its own
pub record AreListed (members : List Bool) (rules : List ℕ) (places : List ℕ) (count : ℕ) : Type 0 where
  pub few : count ≤ rule_limit
  pub members_are : (k : ℕ) → flag_at members k ≡ list_any (λ r. r == k) (take count rules)
  pub placed : (k : ℕ) → k < count → slice_index places (slice_index rules k) ≡ k

-- no rule stands twice in the list
abbrev pub AreDifferent : List ℕ → Type 0
AreDifferent rules = (k : ℕ) → k < length rules → list_any (λ r. r == slice_index rules k) (take k rules) ≡ false
