-- Machine: what is noted of a trail while its cell's lock is held.
use Rattle.std.specs.Prelude.{◌≡◌, ℕ, ◌+◌, ◌^◌, ◌<◌, ◌≤◌, Bool, true, false, List, length, map, take, drop, codes, cond, Some, None, unwrap_or}
use Rattle.sb_durable.specs.Records.{Entry as Record}
use Rattle.sb_tenant.specs.declared.reply.Entry.{Entry}
use Rattle.sb_tenant.specs.Trail.{is_no_memory}
use Rattle.sb_tenant.specs.Tenant.{Tenant, IsLegal}
use Rattle.sb_durable.specs.declared.entry_reader.PendingEntry.{PendingEntry}
use Rattle.sb_durable.specs.declared.entry_reader.EntryReader.{EntryReader}
use Rattle.sb_durable.specs.declared.entry_reader.ReadReach.{ReadReach}
use Rattle.sb_durable.specs.declared.entry_reader.ReadReach.TheVariants.{Nowhere, Part, End, NoMemory}
use Rattle.sb_durable.specs.declared.recorded_reach.RecordedReach.{RecordedReach}
use Rattle.sb_durable.specs.Recording.{GoesOn}

abbrev pub note_of : Entry → PendingEntry
note_of e = record { session = e.session; line = cond (is_no_memory e.reply) None (Some e.line) }

abbrev pub text_of : PendingEntry → List ℕ
text_of note = unwrap_or note.line (codes "rollback")

abbrev pub record_of_note : ℕ → PendingEntry → Record
record_of_note tenant note = record { tenant = tenant; session = note.session; line = text_of note }

-- the first of these entries are noted
abbrev pub IsFront : List Entry → List PendingEntry → Type 0
IsFront entries notes = (length notes ≤ length entries) × (notes ≡ map note_of (take (length notes) entries))

-- as far as was reached
abbrev pub NotesAll : List Entry → List PendingEntry → ReadReach → Type 0
NotesAll entries notes Nowhere = ⊥
NotesAll entries notes NoMemory = Unit {0}
NotesAll entries notes Part = IsFront entries notes
NotesAll entries notes End = IsFront entries notes × (length notes ≡ length entries)

-- it is a place in the tenant's volume
abbrev pub IsPlaceIn : Tenant → RecordedReach → Type 0
IsPlaceIn own at = (at.volume ≡ own.volume) × (at.entries ≤ length own.trail)

-- the entries behind it
abbrev pub NotesBehind : RecordedReach → Tenant → List PendingEntry → ReadReach → Type 0
NotesBehind at own notes Nowhere = Unit {0}
NotesBehind at own notes NoMemory = Unit {0}
NotesBehind at own notes Part = IsPlaceIn own at × IsFront (drop at.entries own.trail) notes
NotesBehind at own notes End = IsPlaceIn own at × IsFront (drop at.entries own.trail) notes × (length notes ≡ length (drop at.entries own.trail))

-- there is no place in the tenant's volume where its recording goes on
abbrev pub IsApart : RecordedReach → Tenant → Type 0
IsApart recorded own = (at : RecordedReach) (is_renewed : Bool) → at.entries < 2 ^ 32 → IsPlaceIn own at → GoesOn recorded at is_renewed → ⊥

-- from where the recording of the tenant goes on
abbrev pub Reads : EntryReader → Tenant → EntryReader → Type 0
Reads old own new =
    IsLegal own × GoesOn old.start.reach new.start.reach new.start.is_renewed × NotesBehind new.start.reach own new.list.items new.reach
    × (new.reach ≡ Nowhere → IsApart old.start.reach own)

-- It has noted a tenant of this number, from where that goes on which was recorded.
abbrev pub IsNoted : ℕ → RecordedReach → EntryReader → Type 0
IsNoted tenant recorded notes =
    (own : Tenant) × (own.id ≡ tenant) × IsLegal own × GoesOn recorded notes.start.reach notes.start.is_renewed
    × NotesBehind notes.start.reach own notes.list.items notes.reach

-- It has come to the end of the trail, which is there.
abbrev pub EndsAt : EntryReader → RecordedReach → Type 0
EndsAt notes at = (notes.reach ≡ End) × (at.volume ≡ notes.start.reach.volume) × (at.entries ≡ notes.start.reach.entries + length notes.list.items)

-- The trail of a tenant of this number ended there at some moment.
abbrev pub IsEndOf : ℕ → RecordedReach → Type 0
IsEndOf tenant at = (own : Tenant) × (own.id ≡ tenant) × IsLegal own × (at.volume ≡ own.volume) × (at.entries ≡ length own.trail)

-- whether all was staged that there is
abbrev pub IsStaged : ReadReach → Bool → Type 0
IsStaged Part is_whole = is_whole ≡ false
IsStaged End is_whole = is_whole ≡ true
IsStaged Nowhere is_whole = ⊥
IsStaged NoMemory is_whole = ⊥
