-- Trails that were noted before the journal was locked, and their ends.
use Rattle.std.proofs.Common.{◌≡◌, ◌⊎◌, ℕ, ◌+◌, ◌≤◌, ◌<◌, Bool, false, List, [], ◌∷◌, ◌++◌, length, map, take, drop, slice_get, slice_index, slice_set, Some, refl, sym, ap, ◌∙◌, subst, inl, inr, arith, length-drop}
use Rattle.std.proofs.Math.Logic.{∥∥₁_elim, ∥∥₁_map, ∥∥₁_prop}
use Rattle.std.proofs.lemmas.List.{append-nil, map-append, set-get_or, take_more}
use Rattle.std.proofs.lemmas.List.Elements.{All-contains_itself, All-from_recursion, All-push, All-same, recursion_from_All}
use Rattle.std.proofs.lemmas.Option.{get_or_from_slice_get}
use Rattle.std.specs.List.{All, AllByRecursion as ByRecursion}
use Rattle.std.specs.Prelude.{Contains}
use Rattle.sb_tenant.specs.Tenant.{Tenant}
use Rattle.sb_durable.specs.BatchJournals.{Base}
use Rattle.sb_durable.specs.Records.{Entry as Record}
use Rattle.sb_durable.specs.EntryReaders.{EndsAt, IsEndOf, IsNoted, NotesBehind}
use Rattle.sb_durable.specs.Recording.{Part, reach_of, records_of, AreAmong, Counts, Reaches}
use Rattle.sb_durable.specs.RecordedTrails.{Brings, HasFront, KeepsFront, StagesNoted, Takes, TakesParts, ends_of}
use Rattle.sb_durable.specs.declared.batch_journal.BatchJournal.{Ghosts}
use Rattle.sb_durable.specs.declared.entry_reader.EntryReader.{EntryReader}
use Rattle.sb_durable.specs.declared.entry_reader.ReadReach.{ReadReach}
use Rattle.sb_durable.specs.declared.journal_writer.JournalWriter.{JournalWriter}
use Rattle.sb_durable.specs.declared.noted_trail.TrailEnd.{TrailEnd}
use Rattle.sb_durable.specs.declared.recorded_reach.RecordedReach.{RecordedReach}
use Rattle.sb_durable.proofs.Parts.{Kept, taken, takes_none, takes_then}

-- ---- one trail

-- it ends where the notes of it do
pub end_of : (t : ℕ) (recorded at : RecordedReach) (notes : EntryReader) → IsNoted t recorded notes → EndsAt notes at → IsEndOf t at
end_of t recorded at notes noted ends =
    let own : Tenant = noted.0 in
    let behind = subst (λ (r : ReadReach). NotesBehind notes.start.reach own notes.list.items r) ends.0 noted.4 in
    (own, noted.1, noted.2, ends.1 ∙ behind.0.0, omega (arith, ends.2, behind.0.1, behind.2, length-drop notes.start.reach.entries own.trail))

module _ {J : Type 0} (kind : Ghosts J) where
  -- what was noted is staged, where it is recorded as far as it was then
  pub noted_taken : (G : Type 0) (old new : JournalWriter J) (t : ℕ) (recorded : RecordedReach) (notes : EntryReader) (all : Bool) → slice_get old.recorded.items t ≡ Some recorded
      → ∥ IsNoted t recorded notes ∥₁ → StagesNoted kind old new t notes all → Kept kind new → ∥ TakesParts kind G old new ∥₁
  noted_taken G old new t recorded notes all there noted staged kept =
      ∥∥₁_map noted (λ (own : IsNoted t recorded notes) base records waiting has.
      let a = taken kind G old new t recorded notes.start own.0 notes.list.items notes.reach all ⊥ there own.1 own.3 own.2 own.4 (λ is. absurd is) staged kept base records waiting has in (a.0, a.1))

  -- nothing is recorded
  pub parts_none : (G : Type 0) (book : JournalWriter J) → Kept kind book → ∥ TakesParts kind G book book ∥₁
  parts_none G book kept = ∣ (λ base records waiting has. ([], takes_none kind G book book base records waiting refl has (kept base records waiting has))) ∣₁

  -- one after the other
  parts_both : (G : Type 0) (old mid new : JournalWriter J) → TakesParts kind ⊥ old mid → TakesParts kind G mid new → TakesParts kind G old new
  parts_both G old mid new first then base records waiting has =
      let any : List Part → Type 0 = λ ps. Unit {0} in
      let a =
      takes_then kind G any any any old mid new
      (λ base records waiting has. let p = first base records waiting has in (p.0, p.1, tt))
      (λ base records waiting has. let p = then base records waiting has in (p.0, p.1, tt)) (λ ps qs one other. tt) base records waiting has in
      (a.0, a.1)

  pub parts_then : (G : Type 0) (old mid new : JournalWriter J) → ∥ TakesParts kind ⊥ old mid ∥₁ → ∥ TakesParts kind G mid new ∥₁ → ∥ TakesParts kind G old new ∥₁
  parts_then G old mid new first then =
      ∥∥₁_elim first ∥∥₁_prop (λ (a : TakesParts kind ⊥ old mid). ∥∥₁_map then (λ (b : TakesParts kind G mid new). parts_both G old mid new a b))

-- ---- ends that are recorded

abbrev IsEnd : TrailEnd → Type 0
IsEnd end = IsEndOf end.tenant end.reach

-- a part of a trail that has nothing beyond its end
abbrev part_at : (end : TrailEnd) → IsEnd end → Part
part_at end is = record { tenant = end.tenant; own = is.0; is_renewed = false; from = end.reach.entries; count = 0 }

-- one more was read
pub ends_more : (tenants : List ℕ) (i : ℕ) (old new : List TrailEnd) (end : TrailEnd) → i < length tenants → end.tenant ≡ slice_index tenants i → IsEnd end → new ≡ old ++ end ∷ []
    → ends_of old ≡ take i tenants → All IsEnd old → (ends_of new ≡ take (i + 1) tenants) × All IsEnd new
ends_more tenants i old new end within is ended added so_far all = (
  ap ends_of added ∙ map-append (λ (e : TrailEnd). e.tenant) old (end ∷ [])
      ∙ ap (λ (ts : List ℕ). ts ++ end.tenant ∷ []) so_far ∙ ap (λ (t : ℕ). take i tenants ++ t ∷ []) is ∙ sym (take_more tenants i 0 within),
  All-same IsEnd new (old ++ end ∷ []) added (All-push IsEnd old end all ended),
)

abbrev parts_at : (ends : List TrailEnd) → ByRecursion IsEnd ends → List Part
parts_at [] are = []
parts_at (end ∷ ends) are = part_at end are.0 ∷ parts_at ends are.1

nothing_at : (ends : List TrailEnd) (are : ByRecursion IsEnd ends) → records_of (parts_at ends are) ≡ []
nothing_at [] are = refl
nothing_at (end ∷ ends) are = nothing_at ends are.1

reached_at : (ends : List TrailEnd) (are : ByRecursion IsEnd ends) → ByRecursion (Reaches (parts_at ends are)) (ends_of ends)
reached_at [] are = tt
reached_at (end ∷ ends) are = (inl (refl, omega (arith, are.0.4)), weaker (ends_of ends) (reached_at ends are.1))
  where
    weaker : (ts : List ℕ) → ByRecursion (Reaches (parts_at ends are.1)) ts → ByRecursion (Reaches (parts_at (end ∷ ends) are)) ts
    weaker [] reach = tt
    weaker (t ∷ ts) reach = (inr reach.0, weaker ts reach.1)

among_at : (tenants : List ℕ) (ends : List TrailEnd) (are : ByRecursion IsEnd ends) → ByRecursion (Contains tenants) (ends_of ends) → AreAmong tenants (parts_at ends are)
among_at tenants [] are in_all = tt
among_at tenants (end ∷ ends) are in_all = (in_all.0, among_at tenants ends are.1 in_all.1)

-- what is set to what it is
set_as_it_is : (xs : List RecordedReach) (k : ℕ) (x : RecordedReach) → slice_get xs k ≡ Some x → slice_set xs k x ≡ xs
set_as_it_is xs k x is = ap (slice_set xs k) (sym (get_or_from_slice_get xs k x x is)) ∙ set-get_or xs k x

abbrev IsIn : List RecordedReach → TrailEnd → Type 0
IsIn reaches end = slice_get reaches end.tenant ≡ Some end.reach

counts_at : (reaches : List RecordedReach) (ends : List TrailEnd) (are : ByRecursion IsEnd ends) → ByRecursion (IsIn reaches) ends → Counts reaches (parts_at ends are) reaches
counts_at reaches [] are there = refl
counts_at reaches (end ∷ ends) are there =
    let own : Tenant = are.0.0 in
    let part : Part = part_at end are.0 in
    let here : reach_of part (part.from + part.count) ≡ end.reach = (λ i. record { volume = sym are.0.3 i; entries = same i }) in
    let at : reach_of part part.from ≡ end.reach = (λ i. record { volume = sym are.0.3 i; entries = end.reach.entries }) in (
      (end.reach, there.0, (are.0.1, at, omega (arith, are.0.4), are.0.2)),
      subst (λ (reaches' : List RecordedReach). Counts reaches' (parts_at ends are.1) reaches) (sym (ap (slice_set reaches end.tenant) here ∙ set_as_it_is reaches end.tenant end.reach there.0)) (counts_at reaches ends are.1 there.1),
    )
  where
    same : end.reach.entries + 0 ≡ end.reach.entries
    same = omega arith

module _ {J : Type 0} (kind : Ghosts J) where
  -- a book whose journal is committed was brought up to the trails that it has recorded
  pub ends_brought : (old new : JournalWriter J) (ends : List TrailEnd) → All IsEnd ends → All (IsIn old.recorded.items) ends → (base : Base) (records waiting : List Record)
      → Takes kind ⊥ old new base records waiting [] → kind.has new.journal base (records ++ waiting) []
      → (parts : List Part) × Takes kind ⊥ old new base records waiting parts × kind.has new.journal base (records ++ (waiting ++ records_of parts)) [] × Brings (ends_of ends) parts
  ends_brought old new ends are there base records waiting takes has =
      let each = recursion_from_All IsEnd ends are in
      let in_book = recursion_from_All (IsIn old.recorded.items) ends there in
      let parts : List Part = parts_at ends each in
      let tenants : List ℕ = ends_of ends in
      let none : [] ≡ records_of parts = sym (nothing_at ends each) in (
        parts,
        record {
          counts = subst (λ (reaches : List RecordedReach). Counts old.recorded.items parts reaches) (sym takes.counts) (counts_at old.recorded.items ends each in_book);
          has = subst (λ (more : List Record). ⊥ ⊎ HasFront kind new.journal base records (waiting ++ more)) none takes.has;
          crash = subst (λ (more : List Record). (files : List (List ℕ)) → kind.leaves new.journal base files → KeepsFront kind base records (waiting ++ more) files) none takes.crash;
        },
        subst (λ (more : List Record). kind.has new.journal base (records ++ more) []) (sym (append_nothing waiting (records_of parts) (sym none))) has,
        record {
          each = λ k below. All-from_recursion (Reaches parts) tenants (reached_at ends each) k 0 below;
          no_others = among_at tenants ends each (recursion_from_All (Contains tenants) tenants (All-contains_itself tenants));
        },
      )
    where
      append_nothing : (xs ys : List Record) → ys ≡ [] → xs ++ ys ≡ xs
      append_nothing xs ys is = ap (λ (l : List Record). xs ++ l) is ∙ append-nil xs
