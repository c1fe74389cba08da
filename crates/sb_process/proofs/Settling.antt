-- Something else stored under one number.
use Rattle.std.proofs.lemmas.Bool.{or_parts}
use Rattle.std.proofs.Common.{◌≡◌, ◌∙◌, ℕ, Bool, true, false, ◌||◌, ◌&&◌, not, cond, nat_eq, List, [], ◌∷◌, map, Option, Some, None, Bor, option_map, is_some, refl, sym, ap, subst, eq-eqb}
use Rattle.std.specs.List.{list_any, find}
use Rattle.std.specs.Option.{option_copied}
use Rattle.sb_value.specs.declared.change.Change.{Change}
use Rattle.sb_tables.specs.Laws.{ChangesKeepPlaces}
use Rattle.sb_value.specs.Locks.{Locks, released}
use Rattle.sb_value.specs.declared.lock.LockMode.{LockMode}
use Rattle.sb_tables.specs.Stored.{Stored, IsStored, HavePlaces, numbers_of}
use Rattle.sb_tables.specs.Held.{Held, numbered, has_number, stored_as, with_stored, settled}
use Rattle.sb_process.specs.Made.{AreNumbered, AreStored, AreMade, tables_after_all, without_room}
use Rattle.sb_process.proofs.Making.{number-room, sound-after_all}

pub number-with : (id : ℕ) (s : Stored) (tables : List Held) (k : ℕ) → has_number (with_stored id s tables) k ≡ has_number tables k
number-with id s [] k = refl
number-with id s (h ∷ tables) k = λ i. by (nat_eq h.id id) i || number-with id s tables k i
  where
    by : (b : Bool) → nat_eq (cond b (record h { stored = s }) h).id k ≡ nat_eq h.id k
    by true = refl
    by false = refl

pub numbered-with : (id : ℕ) (s : Stored) (tables : List Held) → AreNumbered tables → AreNumbered (with_stored id s tables)
numbered-with id s [] n = tt
numbered-with id s (h ∷ tables) n = (number-with id s tables (stored_as id s h).id ∙ ap (has_number tables) (by (nat_eq h.id id)) ∙ n.0, numbered-with id s tables n.1)
  where
    by : (b : Bool) → (cond b (record h { stored = s }) h).id ≡ h.id
    by true = refl
    by false = refl

-- nothing is written under a number that no table has
pub none-with : (id : ℕ) (s : Stored) (tables : List Held) → has_number tables id ≡ false → with_stored id s tables ≡ tables
none-with id s [] none = refl
none-with id s (h ∷ tables) none =
    λ i. cond ((or_parts (nat_eq h.id id) (has_number tables id) none).0 i) (record h { stored = s }) h ∷ none-with id s tables (or_parts (nat_eq h.id id) (has_number tables id) none).1 i

-- ---- the places of the rows alone

one_more : (n m : ℕ) (ns places : List ℕ) → HavePlaces ns places → HavePlaces ns (m ∷ places)
one_more n m [] places h = tt
one_more n m (k ∷ ns) places h = (by (nat_eq m k) h.0, one_more n m ns places h.1)
  where
    by : (b : Bool) → list_any (λ j. nat_eq j k) places ≡ true → (b || list_any (λ j. nat_eq j k) places) ≡ true
    by true e = refl
    by false e = e

pub same_number : (n : ℕ) → nat_eq n n ≡ true
same_number n = eq-eqb n n refl

have_all : (ns : List ℕ) → HavePlaces ns ns
have_all [] = tt
have_all (n ∷ ns) = (ap (λ (b : Bool). b || list_any (λ j. nat_eq j n) ns) (same_number n), one_more n n ns ns (have_all ns))

pub settled-stored : (s : Stored) → IsStored s → IsStored (settled s)
settled-stored s is = (is.0, have_all (numbers_of s.table.rows))

-- ---- look-ups

some_found : {A : Type 0} (p : A → Bool) (xs : List A) → is_some (find p xs) ≡ list_any p xs
some_found p [] = refl
some_found {A} p (x ∷ xs) = elim (p x) as (λ b. is_some (cond b (Some x) (find p xs)) ≡ (b || list_any p xs)) [ true ↦ refl | false ↦ some_found p xs ]

pub some_numbered : (tables : List Held) (id : ℕ) → is_some (numbered tables id) ≡ has_number tables id
some_numbered tables id = some_found (λ h. nat_eq h.id id) tables

pub some_copied : {A : Type 0} (r : Option (Bor A)) → is_some (option_copied r) ≡ is_some r
some_copied None = refl
some_copied (Some x) = refl

pub some_mapped : {A B : Type 0} (f : A → B) (o : Option A) → is_some (option_map f o) ≡ is_some o
some_mapped f None = refl
some_mapped f (Some x) = refl

-- a table that is found has the number, and no other
pub there : (tables : List Held) (id : ℕ) (r : Option (Bor Stored)) (b : Bool) → option_copied r ≡ option_map (λ (h : Held). h.stored) (numbered tables id) → b ≡ is_some r → has_number tables id ≡ b
there tables id r b e p = sym (some_numbered tables id) ∙ sym (some_mapped (λ (h : Held). h.stored) (numbered tables id)) ∙ ap is_some (sym e) ∙ some_copied r ∙ sym p

-- ---- the tables for the next transaction

same_number-room : (one other : List Held) → map without_room one ≡ map without_room other → (id : ℕ) → has_number one id ≡ has_number other id
same_number-room one other e id = sym (number-room one id) ∙ ap (λ ts. has_number ts id) e ∙ number-room other id

-- room makes no difference to soundness
pub sound-room : (one other : List Held) → map without_room one ≡ map without_room other → AreNumbered one → AreStored one → AreNumbered other × AreStored other
sound-room [] [] e n s = (tt, tt)
sound-room [] (k ∷ other) e n s = absurd (cc)
sound-room (h ∷ one) [] e n s = absurd (cc)
sound-room (h ∷ one) (k ∷ other) e n s =
    let first : without_room h ≡ without_room k = cc in
    let rest : map without_room one ≡ map without_room other = cc in
    let more = sound-room one other rest n.1 s.1 in (
      (sym (same_number-room one other rest k.id) ∙ ap (has_number one) (sym (ap (λ (x : Held). x.id) first)) ∙ n.0, more.0),
      (subst (λ (x : Held). IsStored x.stored) first s.0, more.1),
    )

-- the tables with a transaction's changes are sound, and the next transaction may begin on them
pub sound-made : (law : ChangesKeepPlaces) (origin : List Held) (cs : List Change) (tables : List Held) → AreMade origin cs tables → AreNumbered tables × AreStored tables
sound-made law origin cs tables m =
    let sound = sound-after_all law cs origin m.numbered m.stored m.proper in
    sound-room (tables_after_all cs origin) tables (sym m.made) sound.0 sound.1

-- ---- locks

pub same_released : (one other : Locks) (session : ℕ) → ((s t : ℕ) (m : LockMode) → one s t m ≡ other s t m) → (s t : ℕ) (m : LockMode) → released one session s t m ≡ released other session s t m
same_released one other session h s t m = ap (λ b. not (nat_eq s session) && b) (h s t m)
