-- Promise: an order of rules, and the pairs that it stands for.
use Rattle.std.specs.Prelude.{◌≡◌, ◌<◌, ℕ, Bool, IsTrue, length, true, false, not, ◌&&◌, ◌||◌, ◌==◌, nat_lt, if◌then◌else◌, List, ◌++◌, map, filter, Option, Some, MatchOption, slice_get}
use Rattle.std.specs.List.{list_any}
use Rattle.sb_value.specs.Flags.{flag_at}
use Rattle.sb_value.specs.Order.{precedes}
use Rattle.sb_priority.specs.Closed.{HasPairs}

-- the rules in order of creation, and for each rule those that a pair puts before it
pub record Ranks : Type 0 where
  pub rules : List ℕ
  pub before : List (List Bool)

-- true if the rule is in the order
abbrev pub is_ranked : Ranks → ℕ → Bool
is_ranked ranks rule = list_any (λ r. r == rule) ranks.rules

-- all rules of the list are in the order
abbrev pub AreRanked : Ranks → List ℕ → Type 0
AreRanked ranks rules = (r : ℕ) → IsTrue (list_any (λ o. o == r) rules) → IsTrue (is_ranked ranks r)

-- there is a row for the rule
abbrev pub HasRow : Ranks → ℕ → Type 0
HasRow ranks rule = rule < length ranks.before

-- each rule of the order has a row
abbrev pub HaveRows : List ℕ → List (List Bool) → Type 0
HaveRows rules rows = (r : ℕ) → IsTrue (list_any (λ o. o == r) rules) → r < length rows

-- no rule precedes itself
abbrev pub IsAcyclic : List (ℕ × ℕ) → Type 0
IsAcyclic pairs = (a : ℕ) → precedes pairs a a ≡ false

-- the order stands for these pairs, and they close no cycle
pub record HasOrder (ranks : Ranks) (pairs : List (ℕ × ℕ)) : Type 0 where
  pub pairs_are : HasPairs ranks.before pairs
  pub acyclic : IsAcyclic pairs

-- the rule precedes those of the one list and follows those of the other
abbrev pub pairs_of : ℕ → List ℕ → List ℕ → List (ℕ × ℕ)
pairs_of rule ahead_of behind = map (λ p. (rule, p)) ahead_of ++ map (λ f. (f, rule)) behind

-- the pairs that don't name the rule
abbrev pub pairs_without : ℕ → List (ℕ × ℕ) → List (ℕ × ℕ)
pairs_without rule pairs = filter (λ p. not (p.0 == rule) && not (p.1 == rule)) pairs

-- whether a pair is between the rule and one of the others, either way round
abbrev pub is_between : ℕ → List ℕ → ℕ → ℕ → Bool
is_between rule others a b = ((a == rule) && list_any (λ o. o == b) others) || ((b == rule) && list_any (λ o. o == a) others)

-- the pairs but for those between the rule and the others
abbrev pub pairs_apart : ℕ → List ℕ → List (ℕ × ℕ) → List (ℕ × ℕ)
pairs_apart rule others pairs = filter (λ p. not (is_between rule others p.0 p.1)) pairs

-- the pairs after a rule is put apart from the ones, before the next and behind the last
abbrev pub pairs_altered : ℕ → List ℕ → List ℕ → List ℕ → List (ℕ × ℕ) → List (ℕ × ℕ)
pairs_altered rule apart ahead_of behind pairs = pairs_apart rule apart pairs ++ pairs_of rule ahead_of behind

-- the new order has these pairs more
abbrev pub Gains : Ranks → Ranks → List (ℕ × ℕ) → Type 0
Gains old new more = (pairs : List (ℕ × ℕ)) → HasOrder old pairs → HasOrder new (pairs ++ more)

-- the new order has the old one's pairs but for those of the rule
abbrev pub Loses : Ranks → Ranks → ℕ → Type 0
Loses old new rule = (pairs : List (ℕ × ℕ)) → HasOrder old pairs → HasOrder new (pairs_without rule pairs)

-- with these pairs more the rule precedes itself
abbrev pub ClosesCycle : Ranks → ℕ → List (ℕ × ℕ) → Type 0
ClosesCycle old rule more = (pairs : List (ℕ × ℕ)) → HasOrder old pairs → precedes (pairs ++ more) rule rule ≡ true

-- the answer is whether with these pairs more the rule precedes itself
abbrev pub DecidesCycle : Ranks → ℕ → List (ℕ × ℕ) → Bool → Type 0
DecidesCycle ranks rule more answer = (pairs : List (ℕ × ℕ)) → HasOrder ranks pairs → answer ≡ precedes (pairs ++ more) rule rule

-- the new order has the old one's pairs, altered so
abbrev pub Alters : Ranks → Ranks → (List (ℕ × ℕ) → List (ℕ × ℕ)) → Type 0
Alters old new altered = (pairs : List (ℕ × ℕ)) → HasOrder old pairs → HasOrder new (altered pairs)

-- with the pairs altered so the rule precedes itself
abbrev pub AltersToCycle : Ranks → ℕ → (List (ℕ × ℕ) → List (ℕ × ℕ)) → Type 0
AltersToCycle old rule altered = (pairs : List (ℕ × ℕ)) → HasOrder old pairs → precedes (altered pairs) rule rule ≡ true

-- the rules of the set, in order of creation
abbrev pub ranked : List Bool → List ℕ → List ℕ
ranked set rules = filter (λ r. flag_at set r) rules

-- no other rule of the list precedes the rule
abbrev pub is_free : List (ℕ × ℕ) → List ℕ → ℕ → Bool
is_free pairs set r = not (list_any (λ q. not (q == r) && precedes pairs q r) set)

-- the answer is whether no other rule of the set precedes the rule
abbrev pub DecidesFree : Ranks → List Bool → ℕ → Bool → Type 0
DecidesFree ranks set rule answer = (pairs : List (ℕ × ℕ)) → HasOrder ranks pairs → answer ≡ is_free pairs (ranked set ranks.rules) rule

-- of the rule and the other one, if there is one, the one that stands first
abbrev pub IsEarlier : List ℕ → Option ℕ → ℕ → ℕ → Type 0
IsEarlier rules first rule earlier =
    (k : ℕ) → slice_get rules k ≡ Some rule →
    MatchOption first (earlier ≡ rule) (λ other. (j : ℕ) → slice_get rules j ≡ Some other → earlier ≡ (if nat_lt j k then other else rule))
