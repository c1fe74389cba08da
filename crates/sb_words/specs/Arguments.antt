-- Promise: the commands of a command line, their parts, and the ranges of numbers.
use Rattle.std.specs.Prelude.{ℕ, List, [], ◌∷◌, Option, Some, None, codes, map}
use Rattle.clap.specs.Words.{Text}
use Rattle.sb_words.specs.Meanings.{meaning_of}
use Rattle.sb_words.specs.declared.argument.Argument.{Argument}
use Rattle.sb_words.specs.declared.argument.Argument.TheVariants.{Old, New, Action, Folder, Tenant, Load, DumpTo, Into, Journal, Sync, Keys, Status, Tenants, Bound, StepWork, Cells, Workers, Port, Connections, Idle, IdleTransaction, FirstTenant, TenantMemory, Segment, Log, Slow, Renew, UntilInputEnds}
use Rattle.sb_words.specs.declared.argument.NumberRange.{NumberRange}
use Rattle.sb_words.specs.declared.argument.Verb.{Verb}
use Rattle.sb_words.specs.declared.argument.Verb.TheVariants.{Run, Serve, Replay, Parse, Dump, Compact, Key}
use Rattle.sb_words.specs.declared.argument.Verb.TheVariants as verb

-- a command's word
abbrev pub word_of : Verb → Text
word_of Run = codes "run"
word_of Serve = codes "serve"
word_of Replay = codes "replay"
word_of Parse = codes "parse"
word_of Dump = codes "dump"
word_of Compact = codes "compact"
word_of verb.Journal = codes "journal"
word_of Key = codes "key"

abbrev pub verbs : List Verb
verbs = Run ∷ Serve ∷ Replay ∷ Parse ∷ Dump ∷ Compact ∷ verb.Journal ∷ Key ∷ []

-- the command of a word
abbrev pub verb_of : Text → Option Verb
verb_of word = meaning_of word (map (λ v. (word_of v, v)) verbs)

-- files first, then options, in the order in which they are looked at
abbrev pub parts : List Argument
parts = Old ∷ New ∷ Action ∷ Folder ∷ Tenants ∷ Bound ∷ StepWork ∷ Tenant ∷ Into ∷ Cells ∷ Workers ∷ Port ∷ Connections ∷ Idle ∷ IdleTransaction ∷ FirstTenant ∷ TenantMemory ∷ Load ∷ DumpTo
    ∷ Journal ∷ Sync ∷ Segment ∷ Renew ∷ Keys ∷ Status ∷ Log ∷ Slow ∷ UntilInputEnds ∷ []

-- the parts that a command has
abbrev pub parts_of : Verb → List Argument
parts_of Run = Tenants ∷ Bound ∷ StepWork ∷ Load ∷ Journal ∷ Sync ∷ []
parts_of Serve =
    Tenants ∷ Bound ∷ StepWork ∷ Cells ∷ Workers ∷ Port ∷ Connections ∷ Idle ∷ IdleTransaction ∷ FirstTenant ∷ TenantMemory ∷ Load ∷ DumpTo ∷ Journal ∷ Sync ∷ Segment ∷ Renew ∷ Keys
    ∷ Status ∷ Log ∷ Slow ∷ UntilInputEnds ∷ []
parts_of Replay = Tenants ∷ Bound ∷ StepWork ∷ Cells ∷ Workers ∷ []
parts_of Parse = []
parts_of Dump = Tenants ∷ Bound ∷ StepWork ∷ Tenant ∷ Into ∷ []
parts_of Compact = Old ∷ New ∷ Tenants ∷ Bound ∷ StepWork ∷ []
parts_of verb.Journal = Action ∷ Folder ∷ []
parts_of Key = []

abbrev pub name_of : Argument → Text
name_of Old = codes "old"
name_of New = codes "new"
name_of Action = codes "action"
name_of Folder = codes "folder"
name_of Tenant = codes "tenant"
name_of Load = codes "load"
name_of DumpTo = codes "dump-to"
name_of Into = codes "into"
name_of Journal = codes "journal"
name_of Sync = codes "sync"
name_of Keys = codes "keys"
name_of Status = codes "status"
name_of Tenants = codes "tenants"
name_of Bound = codes "bound"
name_of StepWork = codes "step-work"
name_of Cells = codes "cells"
name_of Workers = codes "workers"
name_of Port = codes "port"
name_of Connections = codes "connections"
name_of Idle = codes "idle"
name_of IdleTransaction = codes "idle-transaction"
name_of FirstTenant = codes "first-tenant"
name_of TenantMemory = codes "tenant-memory"
name_of Segment = codes "segment"
name_of Log = codes "log"
name_of Slow = codes "slow"
name_of Renew = codes "renew"
name_of UntilInputEnds = codes "until-input-ends"

-- the numbers from the least to the most, and the usual one
abbrev pub range : ℕ → ℕ → ℕ → Option NumberRange
range least most usual = Some (record { least = least; most = most; usual = usual })

-- those of cells and workers, of ports, and of seconds without a line
abbrev pub few : Option NumberRange
few = range 1 16 4

abbrev pub ports : Option NumberRange
ports = range 0 65535 0

abbrev pub idle_seconds : Option NumberRange
idle_seconds = range 0 86400 0

-- which numbers an option may have, if it has one
abbrev pub range_of : Argument → Option NumberRange
range_of Tenant = range 0 255 0
range_of Tenants = range 1 256 16
range_of Bound = range 1 1000 1000
range_of StepWork = range 1 4294967295 67108864
range_of Cells = few
range_of Workers = few
range_of Port = ports
range_of Status = ports
range_of Connections = range 0 1000000 0
range_of Idle = idle_seconds
range_of IdleTransaction = idle_seconds
range_of FirstTenant = range 0 999999000 0
range_of TenantMemory = range 0 1048576 0
range_of Segment = range 1 65536 64
range_of Slow = range 0 86400000 1000
range_of other = None
