-- Machine: which tuples trigger a rule.
use Rattle.std.specs.Prelude.{ℕ, Bool, true, not, ◌&&◌, ◌||◌, List}
use Rattle.std.specs.List.{list_any}
use Rattle.sb_value.specs.Flags.{has_none}
use Rattle.sb_value.specs.NetEffect.{net_effect, is_operation}
use Rattle.sb_value.specs.declared.change.ChangeKind.{ChangeKind}
use Rattle.sb_value.specs.declared.change.ChangeKind.TheVariants.{Inserted, Deleted, Updated}
use Rattle.sb_value.specs.declared.change.Change.{Change}
use Rattle.sb_value.specs.declared.net.Triggers.{Triggers}
use Rattle.sb_rawlog.specs.Records.{Record}
use Rattle.sb_net.specs.Newest.{is_newest}
use Rattle.sb_net.specs.Scopes.{changes_in}
use Rattle.sb_net.specs.declared.scope.ChangeScope.{ChangeScope}

-- the net effect of the changes on the tuple is one of the operations
abbrev pub is_hit : Triggers → ℕ → List Change → ℕ → Bool
is_hit triggers table changes tuple = is_operation triggers (net_effect changes table tuple)

-- one of the records is of a tuple that is hit
abbrev pub any_tuple : Triggers → ℕ → List Change → List Record → Bool
any_tuple triggers table changes records = list_any (λ r. is_hit triggers table changes r.1.tuple) records

-- true if a tuple's net effect is asked at the record of this kind: of several updates of a tuple at the newest change alone
abbrev pub is_asked : ChangeScope → List Record → ChangeKind → Record → Bool
is_asked s rs Inserted r = true
is_asked s rs Deleted r = true
is_asked s rs Updated r = is_newest s rs r.1.tuple r.0

-- one of the records is asked, and its tuple is hit
abbrev pub any_asked : Triggers → ChangeScope → ChangeKind → List Record → List Record → Bool
any_asked triggers s kind rs records = list_any (λ r. is_asked s rs kind r && is_hit triggers s.table (changes_in s rs) r.1.tuple) records

-- true if changes of the kind may be operations
abbrev pub names_kind : Triggers → ChangeKind → Bool
names_kind triggers Inserted = triggers.inserted
names_kind triggers Deleted = triggers.deleted
names_kind triggers Updated = triggers.updated || not (has_none triggers.columns)
