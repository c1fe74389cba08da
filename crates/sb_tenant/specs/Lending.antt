-- Machine: what a tenant asks of the log and the index that it is lent, and what a line leaves of them.
use Rattle.std.specs.Prelude.{◌≡◌, ℕ, List, [], Option, Some, None, Result, Ok, Err}
use Rattle.sb_rawlog.specs.Records.{Record}
use Rattle.sb_rawlog.specs.Sessions.{records_by, OthersStay}
use Rattle.sb_index.specs.TableSets.{TableSets}
use Rattle.sb_catalog.specs.Definitions.{AreIndexed, OtherTenantsStay}
use Rattle.sb_catalog.specs.declared.rule.Rule.{Rule}
use Rattle.sb_process.specs.Statement.{RisesBy}
use Rattle.sb_tenant.specs.declared.reply.Answer.{Answer}
use Rattle.sb_tenant.specs.Logged.{Agrees, who_of}
use Rattle.sb_tenant.specs.Tenant.{Tenant, state}

-- the log holds the lists of its open transactions, and a time for each of their marks; the index holds its active rules
abbrev pub InStep : Tenant → List Record → ℕ → List (List TableSets) → Type 0
InStep t records clock index = Agrees t.id (state t) t.transactions records clock index

-- of the tenant of that number they hold its active rules, and nothing else
abbrev pub HoldRules : ℕ → List Rule → List Record → List (List TableSets) → Type 0
HoldRules id rules records index = ((s : ℕ) → records_by (who_of id s) records ≡ []) × AreIndexed index id rules

-- they hold nothing of it
abbrev pub HoldNothing : ℕ → List Record → List (List TableSets) → Type 0
HoldNothing id records index = HoldRules id [] records index

-- by how much a line raises the clock at most: only a step that has a number does
abbrev pub rise_of_number : Option ℕ → ℕ
rise_of_number None = 0
rise_of_number (Some n) = 32768000

abbrev pub rise_of : {E : Type 0} → Result Answer E → ℕ
rise_of (Ok answer) = rise_of_number answer.number
rise_of (Err e) = 0

-- a call in a session leaves the tenant in step; what they hold of other sessions and of other tenants stays; the clock rises by n at most
pub record StaysInStep (n : ℕ) (old new : Tenant) (s : ℕ) (records records' : List Record) (clock clock' : ℕ) (index index' : List (List TableSets)) : Type 0 where
  pub in_step : InStep new records' clock' index'
  pub others : OthersStay (who_of old.id s) records records'
  pub rises : RisesBy n clock clock'
  pub tenants : OtherTenantsStay old.id index index'
