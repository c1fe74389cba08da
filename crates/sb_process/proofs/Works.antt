-- A transaction's work goes on in another database of the same tenant.
use Rattle.std.proofs.Common.{◌≡◌, ℕ, List, sym, subst}
use Rattle.sb_catalog.specs.declared.rule.Rule.{Rule}
use Rattle.sb_catalog.specs.Definitions.{AreIndexed}
use Rattle.sb_index.specs.TableSets.{TableSets}
use Rattle.sb_priority.specs.Ranks.{Ranks}
use Rattle.sb_rawlog.specs.Records.{Record}
use Rattle.sb_tables.specs.Held.{Held}
use Rattle.sb_process.specs.declared.database.Database.{Database}
use Rattle.sb_process.specs.Represents.{Represents}
use Rattle.sb_process.specs.Setting.{Setting, Progress}
use Rattle.sb_process.specs.Work.{IsWork}

module _ {origin : List Held} {d : Database} {session : ℕ} {records : List Record} {clock : ℕ} {index : List (List TableSets)} {catalog : List Rule} {order : Ranks} {setting : Setting} {progress : Progress}
    (w : IsWork origin d session records clock index catalog order setting progress) where
  pub work-with : {new : Database} {later : List Record} {time : ℕ} {after : Progress} → Represents origin new session later time setting after → d.id ≡ new.id → IsWork origin new session later time index catalog order setting after
  work-with t same = record { transaction = t; rules = w.rules; indexed = subst (λ (id : ℕ). AreIndexed index id catalog) same w.indexed; ordered = w.ordered }

  -- the rules of the setting are indexed
  pub rules-indexed : AreIndexed index d.id setting.rules
  rules-indexed = subst (AreIndexed index d.id) (sym w.rules) w.indexed
