-- What is recorded of a tenant's life are the steps of its sessions, with a renewal between two volumes.
use Rattle.std.proofs.Common.{◌≡◌, ◌⊎◌, ℕ, ◌+◌, ◌<◌, ◌≤◌, Bool, true, false, List, [], ◌∷◌, ◌++◌, length, map, take, drop, set, Some, slice_get, slice_set, refl, sym, ap, ◌∙◌, inl, inr, arith, append_assoc, get_or-set_same, length-append, length-drop, length-set}
use Rattle.std.proofs.Math.Seq.{drop-length}
use Rattle.std.proofs.lemmas.List.{drop-append-le, drop-drop, map-append, take-append-drop, take-append-le}
use Rattle.std.proofs.lemmas.Option.{slice_get-get_or, slice_get_within}
use Rattle.sb_durable.specs.Records.{Entry as Record}
use Rattle.sb_durable.specs.declared.recorded_reach.RecordedReach.{RecordedReach}
use Rattle.sb_durable.specs.Recording.{Part, AreOf, Counts, GoesOn, entries_of, reach_of, record_of, records_of, renewal_of, renewals_of, renewed}
use Rattle.sb_durable.specs.RecordedLives.{AreMoments, Follow, IsMoment, RecordsAreTheSteps, StoodSo, last_of, steps_behind, whole_reach}
use Rattle.sb_tenant.specs.declared.reply.Entry.{Entry}
use Rattle.sb_tenant.specs.declared.volume.Volume.{Volume}
use Rattle.sb_tenant.specs.Tenant.{Tenant}
use Rattle.sb_tenant.specs.Volumes.{following}

-- ---- lists

room : {A : Type 0} (ys : List A) (e n : ℕ) → e + n ≤ length ys → n ≤ length (drop e ys)
room ys e n fits = omega (arith, fits, length-drop e ys)

-- behind so many entries come these, which were there before, and the later ones
cut : {A : Type 0} (xs ys later : List A) (e n : ℕ) → xs ≡ ys ++ later → e + n ≤ length ys → drop e xs ≡ take n (drop e ys) ++ drop (e + n) xs
cut xs ys later e n grows fits =
    let behind : drop e xs ≡ drop e ys ++ later = ap (drop e) grows ∙ drop-append-le e ys later (omega (arith, fits)) in
    let few : take n (drop e xs) ≡ take n (drop e ys) = ap (take n) behind ∙ take-append-le n (drop e ys) later (room ys e n fits) in
    sym (take-append-drop n (drop e xs)) ∙ (λ i. few i ++ drop-drop n e xs i)

get_set : {A : Type 0} (xs : List A) (n : ℕ) (x y : A) → slice_get xs n ≡ Some x → slice_get (set xs n y) n ≡ Some y
get_set xs n x y is =
    let within : n < length xs = slice_get_within xs n x is in
    slice_get-get_or (set xs n y) n y (omega (arith, within, length-set xs n y)) ∙ ap (λ z. Some z) (get_or-set_same xs n y y within)

-- ---- volumes and their numbers

later_number : (v : Tenant) (ws : List Tenant) (own : Tenant) → Follow v ws → IsMoment own ws → v.volume.number < own.volume.number
later_number v [] own follow is = absurd is
later_number v (w ∷ ws) own (next, more) (inl here) = omega (arith, ap (λ (u : Volume). u.number) here.0, ap (λ (u : Volume). u.number) next.volume)
later_number v (w ∷ ws) own (next, more) (inr later) = omega (arith, later_number w ws own more later, ap (λ (u : Volume). u.number) next.volume)

last_number : (v : Tenant) (ws : List Tenant) → Follow v ws → v.volume.number ≤ (last_of v ws).volume.number
last_number v [] follow = omega arith
last_number v (w ∷ ws) (next, more) = omega (arith, last_number w ws more, ap (λ (u : Volume). u.number) next.volume)

-- it is of a volume before this one, or a moment of this one or of a later one
abbrev Known : Tenant → Tenant → List Tenant → Type 0
Known own v ws = (own.volume.number < v.volume.number) ⊎ IsMoment own (v ∷ ws)

abbrev AreKnown : List Part → Tenant → List Tenant → Type 0
AreKnown [] v ws = Unit {0}
AreKnown (p ∷ ps) v ws = Known p.own v ws × AreKnown ps v ws

-- of this volume it is a moment of this volume
same_volume : (v : Tenant) (ws : List Tenant) (own : Tenant) → Follow v ws → Known own v ws → own.volume ≡ v.volume → (later : List Entry) × (v.trail ≡ own.trail ++ later)
same_volume v ws own follow (inl past) same = absurd (omega (arith, past, ap (λ (u : Volume). u.number) same))
same_volume v ws own follow (inr (inl here)) same = here.1
same_volume v ws own follow (inr (inr later)) same = absurd (omega (arith, later_number v ws own follow later, ap (λ (u : Volume). u.number) same))

-- of the next number it is a moment of the next one
next_volume : (v w : Tenant) (ws : List Tenant) (own : Tenant) → Follow v (w ∷ ws) → Known own v (w ∷ ws) → own.volume.number ≡ v.volume.number + 1 → StoodSo own w
next_volume v w ws own follow (inl past) is = absurd (omega (arith, past, is))
next_volume v w ws own follow (inr (inl here)) is = absurd (omega (arith, ap (λ (u : Volume). u.number) here.0, is))
next_volume v w ws own follow (inr (inr (inl at))) is = at
next_volume v w ws own (next, more) (inr (inr (inr later))) is = absurd (omega (arith, later_number w ws own more later, ap (λ (u : Volume). u.number) next.volume, is))

none_next : (v own : Tenant) → Known own v [] → own.volume.number ≡ v.volume.number + 1 → ⊥
none_next v own (inl past) is = omega (arith, past, is)
none_next v own (inr (inl here)) is = omega (arith, ap (λ (u : Volume). u.number) here.0, is)
none_next v own (inr (inr later)) is = later

known_on : (v w : Tenant) (ws : List Tenant) (own : Tenant) → Follow v (w ∷ ws) → Known own v (w ∷ ws) → Known own w ws
known_on v w ws own (next, more) (inl past) = inl (omega (arith, past, ap (λ (u : Volume). u.number) next.volume))
known_on v w ws own (next, more) (inr (inl here)) = inl (omega (arith, ap (λ (u : Volume). u.number) here.0, ap (λ (u : Volume). u.number) next.volume))
known_on v w ws own follow (inr (inr later)) = inr later

are_known_on : (v w : Tenant) (ws : List Tenant) (ps : List Part) → Follow v (w ∷ ws) → AreKnown ps v (w ∷ ws) → AreKnown ps w ws
are_known_on v w ws [] follow known = tt
are_known_on v w ws (p ∷ ps) follow known = (known_on v w ws p.own follow known.0, are_known_on v w ws ps follow known.1)

are_known : (v : Tenant) (ws : List Tenant) (ps : List Part) → AreMoments ps (v ∷ ws) → AreKnown ps v ws
are_known v ws [] moments = tt
are_known v ws (p ∷ ps) moments = (inr moments.0, are_known v ws ps moments.1)

-- the next volume counts as many entries before it as are recorded only where all of this one are
all_recorded : (v w own : Tenant) (e : ℕ) → v.volume.opening ≤ e → e ≤ length v.trail → own.volume ≡ following v.volume e own.volume.opening → w.volume ≡ following v.volume (length v.trail) w.volume.opening → own.volume ≡ w.volume → e ≡ length v.trail
all_recorded v w own e begun within counted ended same =
    omega (arith, begun, within, ap (λ (u : Volume). u.before) counted, ap (λ (u : Volume). u.before) ended, ap (λ (u : Volume). u.before) same)

-- ---- the records of parts

module _ (t : ℕ) where
  -- what is left of the life behind so many entries of a volume
  abbrev left : Tenant → List Tenant → ℕ → List Record
  left v ws e = map (record_of t) (drop e v.trail) ++ steps_behind t ws

  abbrev reach_in : Tenant → ℕ → RecordedReach
  reach_in v e = record { volume = v.volume; entries = e }

  abbrev Leaves : Tenant → List Tenant → ℕ → List Part → List RecordedReach → Type 0
  Leaves v ws e parts new = (rest : List Record) × (left v ws e ≡ records_of parts ++ rest) × (slice_get new t ≡ Some (whole_reach (last_of v ws)) → rest ≡ [])

  -- from wherever the tenant is recorded
  abbrev Goes : List Part → List RecordedReach → Type 0
  Goes parts new =
      (v : Tenant) (ws : List Tenant) (e : ℕ) (reaches : List RecordedReach) → Follow v ws → v.volume.opening ≤ e → e ≤ length v.trail → AreOf t parts → AreKnown parts v ws
      → slice_get reaches t ≡ Some (reach_in v e) → Counts reaches parts new → Leaves v ws e parts new

  -- nothing is left where all of the last volume is recorded
  none_left : (v : Tenant) (ws : List Tenant) (e : ℕ) → Follow v ws → reach_in v e ≡ whole_reach (last_of v ws) → left v ws e ≡ []
  none_left v [] e follow is =
      let all : drop e v.trail ≡ [] = ap (λ (r : RecordedReach). drop r.entries v.trail) is ∙ drop-length v.trail in
      ap (λ (l : List Entry). map (record_of t) l ++ []) all
  none_left v (w ∷ ws) e (next, more) is =
      absurd (omega (arith, ap (λ (r : RecordedReach). r.volume.number) is, last_number w ws more, ap (λ (u : Volume). u.number) next.volume))

  -- a first part of a list in front
  fronted : (front back rest others : List Record) (b : List Record) → b ++ others ≡ back ++ rest → (front ++ b) ++ others ≡ (front ++ back) ++ rest
  fronted front back rest others b is = append_assoc front b others ∙ ap (λ (l : List Record). front ++ l) is ∙ sym (append_assoc front back rest)

  goes_none : (new : List RecordedReach) → Goes [] new
  goes_none new v ws e reaches follow begun within of known at counts =
      (left v ws e, refl, λ ends. none_left v ws e follow (same (sym at ∙ ap (λ (l : List RecordedReach). slice_get l t) (sym counts) ∙ ends)))
    where
      same : {a b : RecordedReach} → Some a ≡ Some b → a ≡ b
      same is = cc

  -- the steps of a part, and what is left behind them
  steps_on : (v : Tenant) (ws : List Tenant) (own : Tenant) (later : List Entry) (e n : ℕ) (ps : List Part) (rest : List Record) → v.trail ≡ own.trail ++ later → e + n ≤ length own.trail → left v ws (e + n) ≡ records_of ps ++ rest
      → left v ws e ≡ (map (record_of t) (take n (drop e own.trail)) ++ records_of ps) ++ rest
  steps_on v ws own later e n ps rest grows fits is =
      ap (λ (l : List Record). l ++ steps_behind t ws) (ap (map (record_of t)) (cut v.trail own.trail later e n grows fits) ∙ map-append (record_of t) (take n (drop e own.trail)) (drop (e + n) v.trail))
      ∙ fronted (map (record_of t) (take n (drop e own.trail))) (records_of ps) rest (steps_behind t ws) (map (record_of t) (drop (e + n) v.trail)) is

  -- how far it is recorded behind a part
  behind : (reaches : List RecordedReach) (p : Part) (v : Tenant) (e : ℕ) (reach : RecordedReach) → p.tenant ≡ t → slice_get reaches t ≡ Some reach → p.own.volume ≡ v.volume → p.from ≡ e
      → slice_get (slice_set reaches p.tenant (reach_of p (p.from + p.count))) t ≡ Some (reach_in v (e + p.count))
  behind reaches p v e reach of at volume from =
      ap (λ n. slice_get (slice_set reaches n (reach_of p (p.from + p.count))) t) of ∙ get_set reaches t reach (reach_of p (p.from + p.count)) at
      ∙ (λ i. Some (record { volume = volume i; entries = from i + p.count }))

  module _ (p : Part) (ps : List Part) (new : List RecordedReach) (more : Goes ps new) where
    -- in the same volume
    goes_on : (v : Tenant) (ws : List Tenant) (e : ℕ) (reaches : List RecordedReach) → Follow v ws → v.volume.opening ≤ e → AreOf t (p ∷ ps) → AreKnown (p ∷ ps) v ws → slice_get reaches t ≡ Some (reach_in v e)
        → Counts (slice_set reaches p.tenant (reach_of p (p.from + p.count))) ps new → p.is_renewed ≡ false → reach_of p p.from ≡ reach_in v e → p.from + p.count ≤ length p.own.trail → Leaves v ws e (p ∷ ps) new
    goes_on v ws e reaches follow begun of known at counts is start fits =
        let volume : p.own.volume ≡ v.volume = ap (λ (r : RecordedReach). r.volume) start in
        let from : p.from ≡ e = ap (λ (r : RecordedReach). r.entries) start in
        let stood = same_volume v ws p.own follow known.0 volume in
        let within : e + p.count ≤ length p.own.trail = omega (arith, fits, from) in
        let longer : e + p.count ≤ length v.trail = omega (arith, within, ap length stood.1, length-append p.own.trail stood.0) in
        let r = more v ws (e + p.count) (slice_set reaches p.tenant (reach_of p (p.from + p.count))) follow (omega (arith, begun)) longer of.1 known.1 (behind reaches p v e (reach_in v e) of.0 at volume from) counts in
        let own : renewals_of p.tenant p.is_renewed ++ map (record_of p.tenant) (entries_of p) ≡ map (record_of t) (take p.count (drop e p.own.trail)) =
        ap (λ b. renewals_of p.tenant b ++ map (record_of p.tenant) (entries_of p)) is ∙ (λ i. map (record_of (of.0 i)) (take p.count (drop (from i) p.own.trail))) in (
          r.0,
          steps_on v ws p.own stood.0 e p.count ps r.0 stood.1 within r.1 ∙ ap (λ (l : List Record). (l ++ records_of ps) ++ r.0) (sym own),
          r.2,
        )

    -- in the next one
    goes_over : (v : Tenant) (ws : List Tenant) (e : ℕ) (reaches : List RecordedReach) → Follow v ws → v.volume.opening ≤ e → e ≤ length v.trail → AreOf t (p ∷ ps) → AreKnown (p ∷ ps) v ws → slice_get reaches t ≡ Some (reach_in v e)
        → Counts (slice_set reaches p.tenant (reach_of p (p.from + p.count))) ps new → p.is_renewed ≡ true → reach_of p p.from ≡ renewed (reach_in v e) p.own.volume.opening → p.from + p.count ≤ length p.own.trail → Leaves v ws e (p ∷ ps) new
    goes_over v [] e reaches follow begun within of known at counts is start fits = absurd (none_next v p.own known.0 (ap (λ (r : RecordedReach). r.volume.number) start))
    goes_over v (w ∷ ws) e reaches (next, follow) begun within of known at counts is start fits =
        let counted : p.own.volume ≡ following v.volume e p.own.volume.opening = ap (λ (r : RecordedReach). r.volume) start in
        let stood = next_volume v w ws p.own (next, follow) known.0 (ap (λ (u : Volume). u.number) counted) in
        let end : e ≡ length v.trail = all_recorded v w p.own e begun within counted next.volume stood.0 in
        let none : drop e v.trail ≡ [] = ap (λ n. drop n v.trail) end ∙ drop-length v.trail in
        let o = w.volume.opening in
        let from : p.from ≡ o = ap (λ (r : RecordedReach). r.entries) start ∙ ap (λ (u : Volume). u.opening) stood.0 in
        let room : o + p.count ≤ length p.own.trail = omega (arith, fits, from) in
        let longer : o + p.count ≤ length w.trail = omega (arith, room, ap length stood.1.1, length-append p.own.trail stood.1.0) in
        let r = more w ws (o + p.count) (slice_set reaches p.tenant (reach_of p (p.from + p.count))) follow (omega arith) longer of.1 (are_known_on v w ws ps (next, follow) known.1) (behind reaches p w o (reach_in v e) of.0 at stood.0 from) counts in
        let own : renewals_of p.tenant p.is_renewed ++ map (record_of p.tenant) (entries_of p) ≡ renewal_of t ∷ map (record_of t) (take p.count (drop o p.own.trail)) =
        ap (λ b. renewals_of p.tenant b ++ map (record_of p.tenant) (entries_of p)) is ∙ (λ i. renewal_of (of.0 i) ∷ map (record_of (of.0 i)) (take p.count (drop (from i) p.own.trail))) in (
          r.0,
          ap (λ (l : List Entry). map (record_of t) l ++ steps_behind t (w ∷ ws)) none
              ∙ ap (λ (l : List Record). renewal_of t ∷ l) (steps_on w ws p.own stood.1.0 o p.count ps r.0 stood.1.1 room r.1)
              ∙ ap (λ (l : List Record). (l ++ records_of ps) ++ r.0) (sym own),
          r.2,
        )

    goes_more : Goes (p ∷ ps) new
    goes_more v ws e reaches follow begun within of known at ((reach, found, part), counts) = by p.is_renewed refl part.1
      where
        here : reach ≡ reach_in v e
        here = let same : Some reach ≡ Some (reach_in v e) = sym found ∙ ap (λ n. slice_get reaches n) of.0 ∙ at in cc

        by : (b : Bool) → p.is_renewed ≡ b → GoesOn reach (reach_of p p.from) b → Leaves v ws e (p ∷ ps) new
        by false is goes = goes_on v ws e reaches follow begun of known at counts is (goes ∙ here) part.2
        by true is goes = goes_over v ws e reaches follow begun within of known at counts is (goes ∙ ap (λ (r : RecordedReach). renewed r p.own.volume.opening) here) part.2

  goes : (parts : List Part) (new : List RecordedReach) → Goes parts new
  goes [] new = goes_none new
  goes (p ∷ ps) new = goes_more p ps new (goes ps new)

  pub are_the_steps : RecordsAreTheSteps t
  are_the_steps v ws (first, follow) parts of moments reaches new at counts =
      goes parts new v ws v.volume.opening reaches follow (omega arith) (omega (arith, ap (λ (u : Volume). u.opening) first)) of (are_known v ws parts moments)
      (at ∙ (λ i. Some (record { volume = sym first i; entries = (sym first i).opening }))) counts
