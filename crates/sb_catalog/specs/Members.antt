-- Promise: a set of rules, as a flag for each, with rules added or taken.
use Rattle.std.specs.Prelude.{ℕ, Bool, not, ◌&&◌, ◌||◌, ◌==◌, List, map}
use Rattle.std.specs.List.{list_any, enumerate_from}
use Rattle.sb_catalog.specs.declared.members.MemberChange.{MemberChange}
use Rattle.sb_catalog.specs.declared.members.MemberChange.TheVariants.{Added, Taken}

abbrev pub with_rules : List Bool → List ℕ → List Bool
with_rules set rules = map (λ m. m.1 || list_any (λ r. r == m.0) rules) (enumerate_from 0 set)

abbrev pub without_rules : List Bool → List ℕ → List Bool
without_rules set rules = map (λ m. m.1 && not (list_any (λ r. r == m.0) rules)) (enumerate_from 0 set)

-- the rules of a list are added, or taken
abbrev pub changed_members : MemberChange → List Bool → List ℕ → List Bool
changed_members Added = with_rules
changed_members Taken = without_rules
