-- Machine: which rules a session's changes trigger, as memory and the log have them.
use Rattle.std.specs.Prelude.{◌≡◌, IsFalse, ℕ, Bool, true, false, ◌&&◌, List, [], ◌∷◌, Option, Some, None}
use Rattle.sb_value.specs.declared.id.Who.{Who}
use Rattle.sb_value.specs.Flags.{flag_at}
use Rattle.sb_value.specs.Laws.{AreLives}
use Rattle.sb_value.specs.NetEffect.{is_triggered}
use Rattle.sb_catalog.specs.declared.rule.Rule.{Rule}
use Rattle.sb_catalog.specs.Rules.{numbered}
use Rattle.sb_rawlog.specs.Records.{Record}
use Rattle.sb_rawlog.specs.Sessions.{changes_since, changes_between}
use Rattle.sb_process.specs.Setting.{Progress, is_candidate}
use Rattle.sb_process.specs.Transactions.{Kept, mark_of, tested_of, is_candidate_of, ArePast}

-- the session's changes since the rule's mark trigger it; a rule that isn't there is never triggered
abbrev pub is_hit : Who → Kept → List Record → Option Rule → Bool
is_hit who kept records None = false
is_hit who kept records (Some rule) = is_triggered rule.triggers rule.table (changes_since who (mark_of kept who.session rule.id) records)

-- what a test of a rule stands on: the changes since its mark are those of tuples' lives, and up to the last test they don't trigger it
abbrev pub CanTest : Who → Kept → List Record → Option Rule → Type 0
CanTest who kept records None = Unit {0}
CanTest who kept records (Some rule) =
    AreLives (changes_since who (mark_of kept who.session rule.id) records)
    × IsFalse (is_triggered rule.triggers rule.table (changes_between who (mark_of kept who.session rule.id) (tested_of kept who.session rule.id) records))

abbrev pub CanTestAll : Who → Kept → List Record → List Rule → Type 0
CanTestAll who kept records rules = (r : ℕ) → CanTest who kept records (numbered rules r)

-- the set has the eligible candidates that are triggered; an eligible one that isn't has left the candidates
pub record AreSifted (who : Who) (records : List Record) (clock : ℕ) (rules : List Rule) (eligible : List Bool) (old new : Kept) (set : List Bool) : Type 0 where
  pub marks : (s r : ℕ) → mark_of new s r ≡ mark_of old s r
  pub past : ArePast new who.session clock
  pub can : CanTestAll who new records rules
  pub are_candidates : (r : ℕ) → flag_at set r ≡ (is_candidate_of new who.session r && flag_at eligible r)
  pub are_hit : (r : ℕ) → flag_at set r ≡ true → is_hit who old records (numbered rules r) ≡ true
  pub stay : (r : ℕ) → is_hit who old records (numbered rules r) ≡ true → is_candidate_of new who.session r ≡ is_candidate_of old who.session r

-- of these rules the set has those that are eligible and triggered
abbrev pub HasCandidates : List Bool → (ℕ → Bool) → Progress → List Rule → Type 0
HasCandidates set eligible progress [] = Unit {0}
HasCandidates set eligible progress (rule ∷ rules) = (flag_at set rule.id ≡ is_candidate eligible progress rule) × HasCandidates set eligible progress rules
