-- Promise: what a client is told of a statement that makes no step: messages, and the tag of one that went well.
use Rattle.std.specs.Prelude.{◌≡◌, ℕ, Bool, true, false, not, List, [], ◌∷◌, ◌++◌, take, drop, codes, Option, Some, None}
use Rattle.std.specs.List.{prefix_len}
use Rattle.sb_postgres.specs.declared.query.kind.StatementKind.{StatementKind}
use Rattle.sb_postgres.specs.declared.query.kind.StatementKind.TheVariants as k
use Rattle.sb_postgres.specs.declared.told.settings.TheConstants.{VERSION}
use Rattle.sb_postgres.specs.declared.told.sqlstate.SqlState.{SqlState}
use Rattle.sb_postgres.specs.declared.told.sqlstate.SqlState.TheVariants as state
use Rattle.sb_postgres.specs.declared.told.tag.Effect.TheVariants.{Done}
use Rattle.sb_postgres.specs.Answers.{Answered}
use Rattle.sb_postgres.specs.Bytes.{is_word}
use Rattle.sb_postgres.specs.Kinds.{behind_space}
use Rattle.sb_postgres.specs.Settings.{setting_of}
use Rattle.sb_postgres.specs.Tags.{tag_of}
use Rattle.sb_value.specs.declared.value.ColumnType.TheVariants.{Int, Text}
use Rattle.sb_frontend.specs.declared.form.Form.{Form}
use Rattle.sb_frontend.specs.Columns.{one_value}
use Rattle.sb_frontend.specs.Outputs.{FailsBy, notice_of}

abbrev pub one_found : List ℕ
one_found = codes "SELECT 1"

-- the warning of a begin or an end of a transaction that changes nothing
abbrev pub warning : Bool → SqlState → List ℕ → List Answered
warning true state message = notice_of (codes "WARNING") state message ∷ []
warning false state message = []

abbrev pub no_transaction : Bool → List Answered
no_transaction has = warning (not has) state.NoActiveSqlTransaction (codes "there is no transaction in progress")

-- where a transaction begins or ends that is there already, or isn't there
abbrev pub warnings : StatementKind → Bool → Bool → List Answered
warnings k.Begin has own = warning (not own) state.ActiveSqlTransaction (codes "there is already a transaction in progress")
warnings k.Commit has own = no_transaction has
warnings k.Rollback has own = no_transaction has
warnings kind has own = []

-- the setting that is asked for
abbrev pub name_shown : List ℕ → List ℕ
name_shown bytes = behind_space (drop (prefix_len is_word bytes) bytes)

abbrev pub TellsSetting : Form → List ℕ → Option (List ℕ) → List Answered → Type 0
TellsSetting form name (Some value) ms = ms ≡ one_value form name Text value
TellsSetting form name None ms = FailsBy state.UndefinedObject (codes "unrecognized configuration parameter") ms

abbrev pub unsupported_text : List ℕ → List ℕ
unsupported_text bytes = take (prefix_len is_word bytes) bytes ++ codes " is not supported"

-- by whether there is a transaction, and whether that was begun without being asked for
abbrev pub TellsWithout : Form → StatementKind → List ℕ → Bool → Bool → List Answered → Type 0
TellsWithout form k.Begin bytes has own ms = ms ≡ warnings k.Begin has own
TellsWithout form k.Commit bytes has own ms = ms ≡ warnings k.Commit has own
TellsWithout form k.Rollback bytes has own ms = ms ≡ warnings k.Rollback has own
TellsWithout form k.Setting bytes has own ms = ms ≡ []
TellsWithout form k.SelectOne bytes has own ms = ms ≡ one_value form (codes "?column?") Int (codes "1")
TellsWithout form k.SelectVersion bytes has own ms = ms ≡ one_value form (codes "version") Text VERSION.now
TellsWithout form k.SelectSchema bytes has own ms = ms ≡ one_value form (codes "current_schema") Text (codes "public")
TellsWithout form k.Show bytes has own ms = TellsSetting form (name_shown bytes) (setting_of (name_shown bytes)) ms
TellsWithout form kind bytes has own ms = FailsBy state.FeatureNotSupported (unsupported_text bytes) ms

abbrev pub shown_tag : Option (List ℕ) → Option (List ℕ)
shown_tag (Some value) = Some one_found
shown_tag None = None

abbrev pub without_tag : StatementKind → List ℕ → Option (List ℕ)
without_tag k.Begin bytes = Some (tag_of k.Begin bytes Done)
without_tag k.Commit bytes = Some (tag_of k.Commit bytes Done)
without_tag k.Rollback bytes = Some (tag_of k.Rollback bytes Done)
without_tag k.Setting bytes = Some (tag_of k.Setting bytes Done)
without_tag k.SelectOne bytes = Some one_found
without_tag k.SelectVersion bytes = Some one_found
without_tag k.SelectSchema bytes = Some one_found
without_tag k.Show bytes = shown_tag (setting_of (name_shown bytes))
without_tag kind bytes = None
