-- Machine: what is known of the tests that rules share.
use Rattle.std.specs.Prelude.{◌≡◌, ℕ, IsFalse, List, get_or, None, IfSome}
use Rattle.sb_value.specs.declared.id.Who.{Who}
use Rattle.sb_value.specs.declared.net.Triggers.{Triggers}
use Rattle.sb_value.specs.NetEffect.{is_triggered}
use Rattle.sb_rawlog.specs.Records.{Record}
use Rattle.sb_rawlog.specs.Sessions.{changes_since, changes_between}
use Rattle.sb_net.specs.declared.operations.NetOperations.{NetOperations}
use Rattle.sb_net.specs.Meets.{meets}
use Rattle.sb_process.specs.declared.shared_test.SharedTest.{SharedTest}
use Rattle.sb_process.specs.declared.shared_test.SharedTests.{SharedTests}

-- a rule on the table that the changes between mark and last test don't trigger is triggered by those since the mark exactly where the operations meet it
abbrev pub Decides : Who → List Record → ℕ → ℕ → ℕ → NetOperations → Type 0
Decides who records table since tested found =
    (t : Triggers) → IsFalse (is_triggered t table (changes_between who since tested records)) → meets t found ≡ is_triggered t table (changes_since who since records)

-- the operations that are kept, if any, decide for the rules of a table and the test's own times
abbrev pub IsSound : Who → List Record → ℕ → SharedTest → Type 0
IsSound who records table test = IfSome test.operations (Decides who records table test.since test.tested)

-- the test of each table, if there is one, is sound
abbrev pub AreSound : Who → List Record → SharedTests → Type 0
AreSound who records shared = (table : ℕ) → IfSome (get_or shared.tests table None) (IsSound who records table)
