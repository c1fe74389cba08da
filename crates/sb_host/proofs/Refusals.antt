-- A refusal is told by its number and, if it has one, its name.
use Rattle.std.proofs.Common.{◌≡◌, ℕ, ◌==◌, List, [], cond, refl, sym, ap, ◌∙◌}
use Rattle.sb_value.specs.declared.refusal.Refusal.{Refusal}
use Rattle.sb_value.specs.declared.refusal.Refusal.TheVariants as refusal
use Rattle.sb_value.specs.Refusal.{refusal_number}

abbrev name_of : Refusal → List ℕ
name_of (refusal.Locked table) = table
name_of r = []

-- the refusal of a number
abbrev of_number : ℕ → List ℕ → Refusal
of_number n name =
    cond (n == 10) refusal.Syntax (
    cond (n == 20) refusal.NoTable (
    cond (n == 21) refusal.TableExists (
    cond (n == 22) refusal.NoColumn (
    cond (n == 23) refusal.BadType (
    cond (n == 24) refusal.Ambiguous (
    cond (n == 25) refusal.WrongCount (
    cond (n == 26) refusal.BadTransition (
    cond (n == 30) refusal.Overflow (
    cond (n == 31) refusal.TooBig (
    cond (n == 32) refusal.TooManyRows (
    cond (n == 40) (refusal.Locked name) (
    cond (n == 41) refusal.InTransaction (
    cond (n == 42) refusal.NoTransaction (
    cond (n == 43) refusal.Busy (
    cond (n == 44) refusal.NotOpen (
    cond (n == 45) refusal.AlreadyOpen (
    cond (n == 50) refusal.NoRule (
    cond (n == 51) refusal.RuleExists (
    cond (n == 52) refusal.Cycle (
    cond (n == 53) refusal.TooManyRules (
    cond (n == 54) refusal.NoRuleset (
    cond (n == 55) refusal.RulesetExists (
    cond (n == 56) refusal.TooManyRulesets (
    cond (n == 57) refusal.TableInUse (
    cond (n == 58) refusal.TooManyTables (
    cond (n == 90) refusal.TrailFull (
    refusal.NoMemory)))))))))))))))))))))))))))

of-number : (r : Refusal) → of_number (refusal_number r) (name_of r) ≡ r
of-number refusal.Syntax = refl
of-number refusal.NoTable = refl
of-number refusal.TableExists = refl
of-number refusal.NoColumn = refl
of-number refusal.BadType = refl
of-number refusal.Ambiguous = refl
of-number refusal.WrongCount = refl
of-number refusal.BadTransition = refl
of-number refusal.Overflow = refl
of-number refusal.TooBig = refl
of-number refusal.TooManyRows = refl
of-number (refusal.Locked table) = refl
of-number refusal.InTransaction = refl
of-number refusal.NoTransaction = refl
of-number refusal.Busy = refl
of-number refusal.NotOpen = refl
of-number refusal.AlreadyOpen = refl
of-number refusal.NoRule = refl
of-number refusal.RuleExists = refl
of-number refusal.Cycle = refl
of-number refusal.TooManyRules = refl
of-number refusal.NoRuleset = refl
of-number refusal.RulesetExists = refl
of-number refusal.TooManyRulesets = refl
of-number refusal.TableInUse = refl
of-number refusal.TooManyTables = refl
of-number refusal.TrailFull = refl
of-number refusal.NoMemory = refl

unnamed : (r : Refusal) → ((table : List ℕ) → r ≡ refusal.Locked table → ⊥) → name_of r ≡ []
unnamed (refusal.Locked table) h = absurd (h table refl)
unnamed r h = refl

locked : (r : Refusal) → refusal_number r ≡ 40 → r ≡ refusal.Locked (name_of r)
locked r e = sym (of-number r) ∙ ap (λ n. of_number n (name_of r)) e

-- the number alone tells one without a name
pub same_number : (a b : Refusal) → ((table : List ℕ) → a ≡ refusal.Locked table → ⊥) → refusal_number a ≡ refusal_number b → a ≡ b
same_number a b free e =
    let other : (table : List ℕ) → b ≡ refusal.Locked table → ⊥ = λ table is. free (name_of a) (locked a (e ∙ ap refusal_number is)) in
    sym (of-number a) ∙ (λ i. of_number (e i) ((unnamed a free ∙ sym (unnamed b other)) i)) ∙ of-number b
