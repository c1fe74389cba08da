-- Promise: what a command is asked to do: its numbers, and the texts of its paths.
use Rattle.std.specs.Prelude.{◌≡◌, Option, None, option_map}
use Rattle.std.specs.Borrow.{Bor}
use Rattle.clap.specs.Words.{Text}
use Rattle.sb_words.specs.declared.invocation.Dumping.{Dumping}
use Rattle.sb_words.specs.declared.invocation.HostOptions.{HostOptions}
use Rattle.sb_words.specs.declared.invocation.Invocation.{Invocation}
use Rattle.sb_words.specs.declared.invocation.Invocation.TheVariants as invocation
use Rattle.sb_words.specs.declared.invocation.Origin.{Origin}
use Rattle.sb_words.specs.declared.invocation.Origin.TheVariants as origin
use Rattle.sb_words.specs.declared.invocation.Run.{Run}
use Rattle.sb_words.specs.declared.invocation.ServerOptions.{ServerOptions}
use Rattle.sb_words.specs.declared.renew_policy.RenewPolicy.TheVariants.{Never}
use Rattle.sb_words.specs.declared.syncs.Syncs.{Syncs}

-- the tenants that a run or a server begins with: new ones, those of a folder, or those of a journal
pub data Beginning : Type 0 where
  fresh : Beginning
  folder : Text → Beginning
  journal : Text → Syncs → Beginning

-- A server has the folder to which it writes its tenants behind its beginning, and its file of keys; a dump the folder for all tenants; a compaction the
-- path of the old journal and that of the new one; a check the folder of the journal.
pub data Request : Type 0 where
  run : Run → Beginning → Request
  serve : ServerOptions → Beginning → Option Text → Option Text → Request
  replay : HostOptions → Request
  parse : Request
  dump : Dumping → Option Text → Request
  compact : Run → Text → Text → Request
  check : Text → Request
  key : Request

-- a server is asked for by numbers alone, with no status pages, and renews no tenant
abbrev pub IsPlain : ServerOptions → Beginning → Option Text → Option Text → Type 0
IsPlain s begins dump_to keys = (begins ≡ fresh) × (dump_to ≡ None) × (keys ≡ None) × (s.status ≡ None) × (s.renew ≡ Never)

-- ---- in code

-- the text behind a reference that may be there
abbrev pub text_of : Option (Bor Text) → Option Text
text_of s = option_map (λ r. r.now) s

abbrev pub beginning_of : Origin → Beginning
beginning_of origin.Fresh = fresh
beginning_of (origin.Folder path) = folder path.now
beginning_of (origin.Journal words) = journal words.path.now words.syncs

abbrev pub request_of : Invocation → Request
request_of (invocation.Run words) = run words.run (beginning_of words.origin)
request_of (invocation.Serve words) = serve words.options (beginning_of words.origin) (text_of words.dump_to) (text_of words.keys)
request_of (invocation.Replay hosting) = replay hosting
request_of invocation.Parse = parse
request_of (invocation.Dump words) = dump words.dump (text_of words.into)
request_of (invocation.Compact words) = compact words.run words.old.now words.new.now
request_of (invocation.Check path) = check path.now
request_of invocation.Key = key
