-- Parts that are recorded one after the other.
use Rattle.std.proofs.Common.{◌≡◌, ◌⊎◌, ℕ, ◌+◌, ◌≤◌, ◌<◌, Bool, true, List, [], ◌∷◌, ◌++◌, length, map, take, drop, slice_set, slice_index, cond, codes, None, Some, slice_get, refl, sym, ap, ◌∙◌, subst, inl, inr, arith, append_assoc, length-drop, length-take-le, IsTrue, IsFalse, OnErr, IfOk, is_ok, Result, Ok, Err, false}
use Rattle.std.specs.Prelude.{Contains}
use Rattle.std.proofs.lemmas.List.{append-nil, get_or_default, length-map, take-map, take-take}
use Rattle.std.proofs.lemmas.Bool.{cases_lt, true≢false}
use Rattle.sb_durable.specs.BatchJournals.{Base}
use Rattle.sb_durable.specs.declared.batch_journal.BatchJournal.{Ghosts}
use Rattle.sb_host.specs.Lending.{Lends}
use Rattle.sb_durable.specs.Records.{Entry as Record}
use Rattle.sb_tenant.specs.declared.reply.Entry.{Entry}
use Rattle.sb_tenant.specs.Tenant.{Tenant, IsLegal}
use Rattle.sb_tenant.specs.Trail.{is_no_memory}
use Rattle.sb_durable.specs.declared.journal_writer.JournalWriter.{JournalWriter}
use Rattle.sb_durable.specs.declared.error.JournalError.{JournalError}
use Rattle.sb_durable.specs.declared.entry_reader.PendingEntry.{PendingEntry}
use Rattle.sb_durable.specs.declared.entry_reader.EntryReader.{EntryReader}
use Rattle.sb_durable.specs.declared.entry_reader.ReadReach.{ReadReach}
use Rattle.sb_durable.specs.declared.recorded_reach.RecordedReach.{RecordedReach}
use Rattle.sb_durable.specs.declared.recorded_reach.RecordingStart.{RecordingStart}
use Rattle.sb_durable.specs.declared.entry_reader.ReadReach.TheVariants.{Nowhere, Part as OfPart, End, NoMemory}
use Rattle.sb_durable.specs.EntryReaders.{note_of, record_of_note, IsFront, IsPlaceIn, IsStaged, NotesBehind, Reads}
use Rattle.sb_durable.specs.Recording.{Part, entries_of, reach_of, record_of, records_of, renewals_of, AreAmong, AreOf, Counts, GoesOn, Reaches}
use Rattle.sb_durable.specs.RecordedTrails.{HasFront, KeepsFront, Stages, StagesBy, StagesFront, StagesNothing, StagesNoted, StagesSome, Takes}

-- ---- lists of parts

counts-append : (reaches mid new : List RecordedReach) (ps qs : List Part) → Counts reaches ps mid → Counts mid qs new → Counts reaches (ps ++ qs) new
counts-append reaches mid new [] qs first then = subst (λ (l : List RecordedReach). Counts l qs new) first then
counts-append reaches mid new (p ∷ ps) qs first then = (first.0, counts-append (slice_set reaches p.tenant (reach_of p (p.from + p.count))) mid new ps qs first.1 then)

-- what a part is recorded as
abbrev part_records : Part → List Record
part_records p = renewals_of p.tenant p.is_renewed ++ map (record_of p.tenant) (entries_of p)

records-append : (ps qs : List Part) → records_of (ps ++ qs) ≡ records_of ps ++ records_of qs
records-append [] qs = refl
records-append (p ∷ ps) qs = ap (λ (rs : List Record). part_records p ++ rs) (records-append ps qs) ∙ sym (append_assoc (part_records p) (records_of ps) (records_of qs))

pub reaches_first : (ps qs : List Part) (t : ℕ) → Reaches ps t → Reaches (ps ++ qs) t
reaches_first [] qs t reach = absurd reach
reaches_first (p ∷ ps) qs t (inl here) = inl here
reaches_first (p ∷ ps) qs t (inr later) = inr (reaches_first ps qs t later)

pub reaches_then : (ps qs : List Part) (t : ℕ) → Reaches qs t → Reaches (ps ++ qs) t
reaches_then [] qs t reach = reach
reaches_then (p ∷ ps) qs t reach = inr (reaches_then ps qs t reach)

pub of-append : (ps qs : List Part) (t : ℕ) → AreOf t ps → AreOf t qs → AreOf t (ps ++ qs)
of-append [] qs t first then = then
of-append (p ∷ ps) qs t first then = (first.0, of-append ps qs t first.1 then)

pub among-append : (tenants : List ℕ) (ps qs : List Part) → AreAmong tenants ps → AreAmong tenants qs → AreAmong tenants (ps ++ qs)
among-append tenants [] qs first then = then
among-append tenants (p ∷ ps) qs first then = (first.0, among-append tenants ps qs first.1 then)

pub among_one : (tenants : List ℕ) (ps : List Part) (t : ℕ) → Contains tenants t → AreOf t ps → AreAmong tenants ps
among_one tenants [] t there are = tt
among_one tenants (p ∷ ps) t there are = (subst (λ n. Contains tenants n) (sym are.0) there, among_one tenants ps t there are.1)

pub contains_at : (xs : List ℕ) (k : ℕ) → k < length xs → Contains xs (slice_index xs k)
contains_at xs k below = (k, below, get_or_default xs k (slice_index xs k) 0 below)

-- one more tenant's trail is reached
pub reaches_on : (tenants : List ℕ) (i : ℕ) (ps qs : List Part) → ((k : ℕ) → k < i → Reaches ps (slice_index tenants k)) → Reaches qs (slice_index tenants i) → (k : ℕ) → k < i + 1 → Reaches (ps ++ qs) (slice_index tenants k)
reaches_on tenants i ps qs first then k below = elim (cases_lt k i) [
  | inl low ↦ reaches_first ps qs (slice_index tenants k) (first k low)
  | inr high ↦ let here : i ≡ k = omega (arith, below, high) in subst (λ n. Reaches (ps ++ qs) (slice_index tenants n)) here (reaches_then ps qs (slice_index tenants i) then)
]

-- ---- notes

-- the first of the entries are noted
pub front_at : (entries : List Entry) (notes : List PendingEntry) (k : ℕ) → k ≤ length entries → notes ≡ map note_of (take k entries) → IsFront entries notes
front_at entries notes k few is =
    let long : length notes ≡ k = ap length is ∙ length-map (take k entries) note_of ∙ length-take-le k entries few in
    (omega (arith, few, long), is ∙ ap (λ n. map note_of (take n entries)) (sym long))

note_is : (t : ℕ) (e : Entry) → record_of_note t (note_of e) ≡ record_of t e
note_is t e = by (is_no_memory e.reply)
  where
    by : (b : Bool) → record_of_note t (record { session = e.session; line = cond b None (Some e.line) }) ≡ record { tenant = t; session = e.session; line = cond b (codes "rollback") e.line }
    by true = refl
    by false = refl

notes_are : (t : ℕ) (es : List Entry) → map (record_of_note t) (map note_of es) ≡ map (record_of t) es
notes_are t [] = refl
notes_are t (e ∷ es) = (λ i. note_is t e i ∷ notes_are t es i)

-- so many of the notes are recorded as the entries
pub front_is : (t n : ℕ) (entries : List Entry) (notes : List PendingEntry) → IsFront entries notes → n ≤ length notes → map (record_of_note t) (take n notes) ≡ map (record_of t) (take n entries)
front_is t n entries notes front few =
    ap (λ (l : List PendingEntry). map (record_of_note t) (take n l)) front.1
    ∙ ap (map (record_of_note t)) (take-map note_of n (take (length notes) entries) ∙ ap (map note_of) (take-take n (length notes) entries few))
    ∙ notes_are t (take n entries)

-- ---- what a book has

joined : (w a b front back f2 b2 : List Record) → w ++ a ≡ front ++ back → back ++ b ≡ f2 ++ b2 → w ++ (a ++ b) ≡ (front ++ f2) ++ b2
joined w a b front back f2 b2 one other =
    sym (append_assoc w a b) ∙ ap (λ (l : List Record). l ++ b) one ∙ append_assoc front back b ∙ ap (λ (l : List Record). front ++ l) other ∙ sym (append_assoc front f2 b2)

pub on_err : {T E P : Type 0} (r : Result T E) → P → OnErr r P
on_err (Ok x) p = tt
on_err (Err e) p = p

-- all was staged only where the end was reached
pub whole_reach : (reach : ReadReach) (whole : Bool) → IsStaged reach whole → IsTrue whole → reach ≡ End
whole_reach Nowhere whole staged is = absurd staged
whole_reach NoMemory whole staged is = absurd staged
whole_reach OfPart whole staged is = absurd (cc (staged, is))
whole_reach End whole staged is = refl

-- the files have the records, or those that waited, too
kept_by : {J : Type 0} (kind : Ghosts J) (base : Base) (records waiting : List Record) (files : List (List ℕ)) → kind.keeps base records files ⊎ kind.keeps base (records ++ waiting) files → KeepsFront kind base records (waiting ++ []) files
kept_by kind base records waiting files (inl before) = record { front = []; back = waiting; all = append-nil waiting; keeps = subst (λ (r : List Record). kind.keeps base r files) (sym (append-nil records)) before }
kept_by kind base records waiting files (inr after) = record { front = waiting; back = []; all = refl; keeps = after }

module _ {J : Type 0} (kind : Ghosts J) where
  -- nothing is recorded yet
  pub takes_none : (G : Type 0) (old new : JournalWriter J) (base : Base) (records waiting : List Record) → new.recorded.items ≡ old.recorded.items → kind.has new.journal base records waiting
      → ((files : List (List ℕ)) → kind.leaves new.journal base files → kind.keeps base records files) → Takes kind G old new base records waiting []
  takes_none G old new base records waiting same has kept = record {
    counts = same;
    has = inr (record { front = []; back = waiting; all = append-nil waiting; has = subst (λ (r : List Record). kind.has new.journal base r waiting) (sym (append-nil records)) has });
    crash = λ files left. record { front = []; back = waiting; all = append-nil waiting; keeps = subst (λ (r : List Record). kind.keeps base r files) (sym (append-nil records)) (kept files left) };
  }

  -- what is known of the journal then
  pub front_of : (old new : JournalWriter J) (base : Base) (records waiting : List Record) (ps : List Part) → Takes kind ⊥ old new base records waiting ps
      → HasFront kind new.journal base records (waiting ++ records_of ps)
  front_of old new base records waiting ps takes = by takes.has
    where
      by : ⊥ ⊎ HasFront kind new.journal base records (waiting ++ records_of ps) → HasFront kind new.journal base records (waiting ++ records_of ps)
      by (inl none) = absurd none
      by (inr has) = has

  -- one after the other
  pub takes_more : (G : Type 0) (old mid new : JournalWriter J) (base : Base) (records waiting : List Record) (ps qs : List Part) (first : Takes kind ⊥ old mid base records waiting ps)
      (has : HasFront kind mid.journal base records (waiting ++ records_of ps)) → Takes kind G mid new base (records ++ has.front) has.back qs → Takes kind G old new base records waiting (ps ++ qs)
  takes_more G old mid new base records waiting ps qs first has then = record {
    counts = counts-append old.recorded.items mid.recorded.items new.recorded.items ps qs first.counts then.counts;
    has = by then.has;
    crash = λ files left. let k = then.crash files left in record {
      front = has.front ++ k.front;
      back = k.back;
      all = ap (λ (l : List Record). waiting ++ l) (records-append ps qs) ∙ joined waiting (records_of ps) (records_of qs) has.front has.back k.front k.back has.all k.all;
      keeps = subst (λ (r : List Record). kind.keeps base r files) (append_assoc records has.front k.front) k.keeps;
    };
  }
    where
      by : G ⊎ HasFront kind new.journal base (records ++ has.front) (has.back ++ records_of qs) → G ⊎ HasFront kind new.journal base records (waiting ++ records_of (ps ++ qs))
      by (inl given_up) = inl given_up
      by (inr h) = inr (record {
        front = has.front ++ h.front;
        back = h.back;
        all = ap (λ (l : List Record). waiting ++ l) (records-append ps qs) ∙ joined waiting (records_of ps) (records_of qs) has.front has.back h.front h.back has.all h.all;
        has = subst (λ (r : List Record). kind.has new.journal base r h.back) (append_assoc records has.front h.front) h.has;
      })

  pub takes_last : (G : Type 0) (old mid new : JournalWriter J) (base : Base) (records waiting : List Record) (ps : List Part) (first : Takes kind ⊥ old mid base records waiting ps)
      (has : HasFront kind mid.journal base records (waiting ++ records_of ps)) → Takes kind G mid new base (records ++ has.front) has.back [] → Takes kind G old new base records waiting ps
  takes_last G old mid new base records waiting ps first has then =
      subst (λ (l : List Part). Takes kind G old new base records waiting l) (append-nil ps) (takes_more G old mid new base records waiting ps [] first has then)

  -- a part of a trail is staged
  pub takes_part : (G : Type 0) (old new : JournalWriter J) (base : Base) (records waiting : List Record) (t n : ℕ) (reach : RecordedReach) (start : RecordingStart) (own : Tenant) (notes : List PendingEntry)
      → slice_get old.recorded.items t ≡ Some reach → own.id ≡ t → GoesOn reach start.reach start.is_renewed → start.reach.volume ≡ own.volume → IsLegal own → start.reach.entries + n ≤ length own.trail
      → IsFront (drop start.reach.entries own.trail) notes → n ≤ length notes → length (take n notes) ≡ n → Stages kind old new t start (take n notes)
      → kind.has old.journal base records waiting → ((base : Base) (records waiting : List Record) → kind.has new.journal base records waiting → (files : List (List ℕ)) → kind.leaves new.journal base files → kind.keeps base records files)
      → Takes kind G old new base records waiting (record { tenant = t; own = own; is_renewed = start.is_renewed; from = start.reach.entries; count = n } ∷ [])
  takes_part G old new base records waiting t n reach start own notes there lent goes volume legal within front few long stages has kept =
      let from : ℕ = start.reach.entries in
      let renewals : List Record = renewals_of t start.is_renewed in
      let part : Part = record { tenant = t; own = own; is_renewed = start.is_renewed; from = from; count = n } in
      let all : waiting ++ (renewals ++ map (record_of_note t) (take n notes)) ≡ waiting ++ records_of (part ∷ []) =
      ap (λ (l : List Record). waiting ++ l) (ap (λ (l : List Record). renewals ++ l) (front_is t n (drop from own.trail) notes front few) ∙ sym (append-nil (part_records part))) in
      let now = subst (λ (w : List Record). kind.has new.journal base records w) all (stages.has base records waiting has) in
      let counts : new.recorded.items ≡ slice_set old.recorded.items t (reach_of part (from + n)) = stages.counts ∙ (λ i. slice_set old.recorded.items t (record { volume = volume i; entries = from + long i })) in
      let goes_on : GoesOn reach (reach_of part from) start.is_renewed = subst (λ (at : RecordedReach). GoesOn reach at start.is_renewed) (λ i. record { volume = volume i; entries = from }) goes in
      record {
        counts = ((reach, there, (lent, goes_on, within, legal)), counts);
        has = inr (record { front = []; back = waiting ++ records_of (part ∷ []); all = refl; has = subst (λ (r : List Record). kind.has new.journal base r (waiting ++ records_of (part ∷ []))) (sym (append-nil records)) now });
        crash = λ files left. record { front = []; back = waiting ++ records_of (part ∷ []); all = refl; keeps = subst (λ (r : List Record). kind.keeps base r files) (sym (append-nil records)) (kept base records (waiting ++ records_of (part ∷ [])) now files left) };
      }

  -- what waited is on the disk
  pub takes_all : (old new : JournalWriter J) (base : Base) (records waiting : List Record) → new.recorded.items ≡ old.recorded.items → kind.has new.journal base (records ++ waiting) []
      → ((files : List (List ℕ)) → kind.leaves new.journal base files → kind.keeps base records files ⊎ kind.keeps base (records ++ waiting) files) → Takes kind ⊥ old new base records waiting []
  takes_all old new base records waiting same has left = record {
    counts = same;
    has = inr (record { front = waiting; back = []; all = refl; has = has });
    crash = λ files may. kept_by kind base records waiting files (left files may);
  }

  -- or it isn't, and the journal may be spent
  pub takes_some : (old new : JournalWriter J) (base : Base) (records waiting : List Record) → new.recorded.items ≡ old.recorded.items
      → ((base : Base) (records waiting : List Record) → kind.has old.journal base records waiting → kind.has new.journal base records waiting) ⊎ kind.is_over new.journal
      → kind.has old.journal base records waiting
      → ((files : List (List ℕ)) → kind.leaves new.journal base files → kind.keeps base records files ⊎ kind.keeps base (records ++ waiting) files) → Takes kind (kind.is_over new.journal) old new base records waiting []
  takes_some old new base records waiting same stays has left = record { counts = same; has = by stays; crash = λ files may. kept_by kind base records waiting files (left files may) }
    where
      by : ((base : Base) (records waiting : List Record) → kind.has old.journal base records waiting → kind.has new.journal base records waiting) ⊎ kind.is_over new.journal
          → kind.is_over new.journal ⊎ HasFront kind new.journal base records (waiting ++ [])
      by (inl same) = inr (record { front = []; back = waiting; all = append-nil waiting; has = subst (λ (r : List Record). kind.has new.journal base r waiting) (sym (append-nil records)) (same base records waiting has) })
      by (inr spent) = inl spent

  -- what was noted is staged
  abbrev pub Kept : JournalWriter J → Type 0
  Kept new = (base : Base) (records waiting : List Record) → kind.has new.journal base records waiting → (files : List (List ℕ)) → kind.leaves new.journal base files → kind.keeps base records files

  -- a loop over notes has come so far
  pub staged_front : (old new : JournalWriter J) (t : ℕ) (start : RecordingStart) (notes : List PendingEntry) (i : ℕ) (all : Bool) (reach : RecordedReach) → i ≤ length notes → (IsTrue all → i ≡ length notes)
      → reach ≡ record { volume = start.reach.volume; entries = start.reach.entries + i } → new.recorded.items ≡ slice_set old.recorded.items t reach
      → ((base : Base) (records waiting : List Record) → kind.has old.journal base records waiting → kind.has new.journal base records (waiting ++ (renewals_of t start.is_renewed ++ map (record_of_note t) (take i notes))))
      → StagesSome kind old new t start notes all
  staged_front old new t start notes i all reach few whole is counts has =
      inr (record {
        count = i;
        few = few;
        whole = whole;
        stages = record {
          counts = counts ∙ ap (slice_set old.recorded.items t) is ∙ (λ j. slice_set old.recorded.items t (record { volume = start.reach.volume; entries = start.reach.entries + sym (length-take-le i notes few) j }));
          has = has;
        };
      })

  abbrev Taken : Type 0 → JournalWriter J → JournalWriter J → ℕ → Type 0 → Type 0
  Taken G old new t whole =
      (base : Base) (records waiting : List Record) → kind.has old.journal base records waiting → (parts : List Part) × Takes kind G old new base records waiting parts × AreOf t parts × (whole → Reaches parts t)

  taken_front : (G : Type 0) (old new : JournalWriter J) (t : ℕ) (reach : RecordedReach) (start : RecordingStart) (own : Tenant) (notes : List PendingEntry) (all : Bool) (whole : Type 0) → slice_get old.recorded.items t ≡ Some reach → own.id ≡ t → GoesOn reach start.reach start.is_renewed → IsLegal own
      → IsPlaceIn own start.reach → IsFront (drop start.reach.entries own.trail) notes → (whole → (length notes ≡ length (drop start.reach.entries own.trail)) × IsTrue all) → StagesFront kind old new t start notes all → Kept new → Taken G old new t whole
  taken_front G old new t reach start own notes all whole there lent goes legal place front to_end staged kept base records waiting has =
      let from : ℕ = start.reach.entries in
      let part : Part = record { tenant = t; own = own; is_renewed = start.is_renewed; from = from; count = staged.count } in (
        part ∷ [],
        takes_part G old new base records waiting t staged.count reach start own notes there lent goes place.0 legal (omega (arith, place.1, front.0, staged.few, length-drop from own.trail)) front staged.few (length-take-le staged.count notes staged.few) staged.stages has kept,
        (refl, tt),
        λ w. inl (refl, omega (arith, place.1, (to_end w).0, staged.whole (to_end w).1, length-drop from own.trail)),
      )

  taken_nothing : (G : Type 0) (old new : JournalWriter J) (t : ℕ) (whole : Type 0) → StagesNothing kind old new → (whole → ⊥) → Kept new → Taken G old new t whole
  taken_nothing G old new t whole nothing none kept base records waiting has =
      let now = nothing.has base records waiting has in
      ([], takes_none G old new base records waiting nothing.counts now (kept base records waiting now), tt, λ w. absurd (none w))

  taken_none : (G : Type 0) (old new : JournalWriter J) (t : ℕ) (whole : Type 0) → new ≡ old → (whole → ⊥) → Kept new → Taken G old new t whole
  taken_none G old new t whole same none kept =
      taken_nothing G old new t whole
      (record {
        counts = ap (λ (b : JournalWriter J). b.recorded.items) same;
        has = λ base records waiting has. subst (λ (b : JournalWriter J). kind.has b.journal base records waiting) (sym same) has;
      }) none kept

  taken_some : (G : Type 0) (old new : JournalWriter J) (t : ℕ) (reach : RecordedReach) (start : RecordingStart) (own : Tenant) (notes : List PendingEntry) (all : Bool) (whole : Type 0) → slice_get old.recorded.items t ≡ Some reach → own.id ≡ t → GoesOn reach start.reach start.is_renewed → IsLegal own
      → IsPlaceIn own start.reach → IsFront (drop start.reach.entries own.trail) notes → (whole → (length notes ≡ length (drop start.reach.entries own.trail)) × IsTrue all) → StagesSome kind old new t start notes all → Kept new → Taken G old new t whole
  taken_some G old new t reach start own notes all whole there lent goes legal place front to_end (inl nothing) kept = taken_nothing G old new t whole nothing.0 (λ w. true≢false (sym (to_end w).1 ∙ nothing.1)) kept
  taken_some G old new t reach start own notes all whole there lent goes legal place front to_end (inr staged) kept = taken_front G old new t reach start own notes all whole there lent goes legal place front to_end staged kept

  -- by how far the notes go, and whether all of them were taken
  pub taken : (G : Type 0) (old new : JournalWriter J) (t : ℕ) (reach : RecordedReach) (start : RecordingStart) (own : Tenant) (notes : List PendingEntry) (read : ReadReach) (all : Bool) (whole : Type 0) → slice_get old.recorded.items t ≡ Some reach → own.id ≡ t → GoesOn reach start.reach start.is_renewed → IsLegal own
      → NotesBehind start.reach own notes read → (whole → (read ≡ End) × IsTrue all) → StagesBy kind old new t start notes all read → Kept new → Taken G old new t whole
  taken G old new t reach start own notes Nowhere all whole there lent goes legal behind to_end staged kept = taken_none G old new t whole staged (λ w. absurd (cc ((to_end w).0))) kept
  taken G old new t reach start own notes NoMemory all whole there lent goes legal behind to_end staged kept = taken_none G old new t whole staged (λ w. absurd (cc ((to_end w).0))) kept
  taken G old new t reach start own notes OfPart all whole there lent goes legal behind to_end staged kept =
      taken_some G old new t reach start own notes all whole there lent goes legal behind.0 behind.1 (λ w. absurd (cc ((to_end w).0))) staged kept
  taken G old new t reach start own notes End all whole there lent goes legal behind to_end staged kept =
      taken_some G old new t reach start own notes all whole there lent goes legal behind.0 behind.1 (λ w. (behind.2, (to_end w).1)) staged kept

  -- a reading, and what was staged of it
  pub taken_ok : (old new : JournalWriter J) (t : ℕ) (blank notes : EntryReader) (there : Bool) (r : Result Bool JournalError) → slice_get old.recorded.items t ≡ Some blank.start.reach → blank.reach ≡ Nowhere
      → (IsTrue there → Lends (Reads blank) t notes) → (IsFalse there → notes ≡ blank) → IfOk r (λ w. IsStaged notes.reach w) → StagesNoted kind old new t notes (is_ok r) → Kept new
      → IfOk r (λ w. Taken ⊥ old new t (IsTrue w))
  taken_ok old new t blank notes there (Err e) has nowhere read none whole staged kept = tt
  taken_ok old new t blank notes true (Ok w) has nowhere read none whole staged kept =
      let own = read refl in
      taken ⊥ old new t blank.start.reach notes.start own.0 notes.list.items notes.reach true (IsTrue w) has own.1 own.2.1 own.2.0 own.2.2 (λ is. (whole_reach notes.reach w whole is, refl)) staged kept
  taken_ok old new t blank notes false (Ok w) has nowhere read none whole staged kept =
      let is : notes.reach ≡ Nowhere = ap (λ (n : EntryReader). n.reach) (none refl) ∙ nowhere in
      taken_none ⊥ old new t (IsTrue w) (subst (λ (r : ReadReach). StagesBy kind old new t notes.start notes.list.items true r) is staged) (λ _. subst (λ (r : ReadReach). IsStaged r w) is whole) kept

  pub taken_err : (G : Type 0) (old new : JournalWriter J) (t : ℕ) (blank notes : EntryReader) (there : Bool) (r : Result Bool JournalError) → slice_get old.recorded.items t ≡ Some blank.start.reach → blank.reach ≡ Nowhere
      → (IsTrue there → Lends (Reads blank) t notes) → (IsFalse there → notes ≡ blank) → StagesNoted kind old new t notes (is_ok r) → Kept new → OnErr r (Taken G old new t ⊥)
  taken_err G old new t blank notes there (Ok w) has nowhere read none staged kept = tt
  taken_err G old new t blank notes true (Err e) has nowhere read none staged kept =
      let own = read refl in
      taken G old new t blank.start.reach notes.start own.0 notes.list.items notes.reach false ⊥ has own.1 own.2.1 own.2.0 own.2.2 (λ is. absurd is) staged kept
  taken_err G old new t blank notes false (Err e) has nowhere read none staged kept =
      let is : notes.reach ≡ Nowhere = ap (λ (n : EntryReader). n.reach) (none refl) ∙ nowhere in
      taken_none G old new t ⊥ (subst (λ (r : ReadReach). StagesBy kind old new t notes.start notes.list.items false r) is staged) (λ is. is) kept

  -- one step after the other, from whatever the journal has
  abbrev pub TakesWith : Type 0 → (List Part → Type 0) → JournalWriter J → JournalWriter J → Type 0
  TakesWith G P old new =
      (base : Base) (records waiting : List Record) → kind.has old.journal base records waiting → (ps : List Part) × Takes kind G old new base records waiting ps × P ps

  pub takes_then : (G : Type 0) (P Q R : List Part → Type 0) (old mid new : JournalWriter J) → TakesWith ⊥ P old mid → TakesWith G Q mid new → ((ps qs : List Part) → P ps → Q qs → R (ps ++ qs)) → TakesWith G R old new
  takes_then G P Q R old mid new first then both base records waiting has =
      let a = first base records waiting has in
      let h = front_of old mid base records waiting a.0 a.1 in
      let b = then base (records ++ h.front) h.back h.has in
      (a.0 ++ b.0, takes_more G old mid new base records waiting a.0 b.0 a.1 h b.1, both a.0 b.0 a.2 b.2)
