-- What each call leaves of a table's slots.
use Rattle.std.proofs.Common.{◌≡◌, ℕ, suc, ◌+◌, ◌-◌, ◌<◌, ◌≤◌, true, false, cond, ◌==◌, ◌&&◌, List, [], ◌∷◌, ◌++◌, map, length, take, drop, set, get_or, Option, Some, None, IsSome, refl, sym, ◌∙◌, ap, subst, arith}
use Rattle.std.proofs.lemmas.Bool.{false≢true}
use Rattle.std.specs.Prelude.{option_to_list}
use Rattle.std.proofs.lemmas.List.{get_or-map, length-set, map_push, length_push, length-map}
use Rattle.sb_value.specs.declared.value.Value.{Value}
use Rattle.sb_value.specs.declared.value.ColumnDefinition.{ColumnDefinition}
use Rattle.sb_tables.specs.declared.slot.Slot.{Slot}
use Rattle.sb_tables.specs.Rising.{Rises, IsPlace, AllBelow, AllFrom}
use Rattle.sb_tables.specs.Slots.{numbers, live_rows, AreSound}
use Rattle.sb_tables.specs.Stored.{Stored, numbers_of, put}
use Rattle.sb_tables.proofs.RisingLaws.{below_before, below_to, from_on, rises_push, rises_front}
use Rattle.sb_tables.proofs.RowLaws.{Numbered, row_of, others, replaced, length-others, put-replaces}
use Rattle.sb_tables.proofs.SlotLaws.{live_rises, live-append, live-mark, live-put, length-live_set, length-numbers, numbers-set, row-at, row_if, live-last, live_slots, live-live, numbers-live, live_at_most}

abbrev pub stored : List ColumnDefinition → List Numbered → ℕ → List ℕ → ℕ → Stored
stored columns rows next places room = record { table = record { columns = columns; rows = rows; next = next }; places = places; room = room }

pub same_stored : (columns : List ColumnDefinition) (rows more : List Numbered) (next room : ℕ) (places others : List ℕ) → rows ≡ more → places ≡ others → stored columns rows next places room ≡ stored columns more next others room
same_stored columns rows more next room places others a b = λ i. stored columns (a i) next (b i) room

-- the slot at a place has the number there
pub numbered : (ss : List Slot) (i : ℕ) (s : Slot) → i < length (numbers ss) → s ≡ get_or ss i s → s.number ≡ get_or (numbers ss) i 0
numbered ss i s lt e = ap (λ x. x.number) e ∙ sym (get_or-map (λ x. x.number) ss i s 0 (omega (arith, length-numbers ss)))

numbered_at : (ss : List Slot) (i : ℕ) (d : Slot) → i < length (numbers ss) → (get_or ss i d).number ≡ get_or (numbers ss) i 0
numbered_at ss i d lt = sym (get_or-map (λ x. x.number) ss i d 0 (omega (arith, length-numbers ss)))

-- where the number of the slot at a place is below another, those in front of it are too; where it isn't, those behind it aren't either
pub slots_below : (ss : List Slot) (high n i : ℕ) (d : Slot) → Rises 0 (numbers ss) high → i < length ss → (get_or ss i d).number < n → AllBelow n (take (suc i) (numbers ss))
slots_below ss high n i d h lt b =
    let within : i < length (numbers ss) = omega (arith, length-numbers ss) in
    below_to 0 (numbers ss) high n i h within (subst (λ m. m < n) (numbered_at ss i d within) b)

pub slots_from : (ss : List Slot) (high n i : ℕ) (d : Slot) → Rises 0 (numbers ss) high → i < length ss → n ≤ (get_or ss i d).number → AllFrom n (drop i (numbers ss))
slots_from ss high n i d h lt b =
    let within : i < length (numbers ss) = omega (arith, length-numbers ss) in
    from_on 0 (numbers ss) high n i h within (subst (λ m. n ≤ m) (numbered_at ss i d within) b)

-- the row of a number is that of its slot, unless it is deleted
pub row_here : (ss : List Slot) (high n i : ℕ) (s : Slot) → Rises 0 (numbers ss) high → i < length (numbers ss) → get_or (numbers ss) i 0 ≡ n → s ≡ get_or ss i s → row_of n (live_rows ss) ≡ row_if n s
row_here ss high n i s h lt e is =
    row-at 0 ss high n i s h (subst (λ m. AllBelow m (take i (numbers ss))) e (below_before 0 (numbers ss) high i h lt)) (from_on 0 (numbers ss) high n i h lt (omega arith)) (omega (arith, length-numbers ss))
    ∙ ap (row_if n) (sym is)

some_row : (n : ℕ) (s : Slot) → IsSome (row_if n s) → (s.live ≡ true) × (row_if n s ≡ Some s.row)
some_row n s h =
    elim s.live as (λ b. IsSome (cond (b && (s.number == n)) (Some s.row) None) → (b ≡ true) × (cond (b && (s.number == n)) (Some s.row) None ≡ Some s.row)) [
      | true ↦ λ h. elim (s.number == n) as (λ b. IsSome (cond b (Some s.row) None) → (true ≡ true) × (cond b (Some s.row) None ≡ Some s.row)) [
        | true ↦ λ _. (refl, refl)
        | false ↦ λ h. absurd (false≢true h)
      ] h
      | false ↦ λ h. absurd (false≢true h)
    ] h

pub live_here : (ss : List Slot) (high n i : ℕ) (s : Slot) → Rises 0 (numbers ss) high → i < length (numbers ss) → get_or (numbers ss) i 0 ≡ n → s ≡ get_or ss i s → IsSome (row_of n (live_rows ss)) → (s.live ≡ true) × (row_of n (live_rows ss) ≡ Some s.row)
live_here ss high n i s h lt e is some =
    let here = row_here ss high n i s h lt e is in let found = some_row n s (subst IsSome here some) in (found.0, here ∙ found.1)

module _ (ss : List Slot) (deleted next room capacity n i : ℕ) (sound : AreSound ss deleted next room capacity) (at : IsPlace n (numbers ss) i) (t : Slot) where
  pub numbers-write : t.number ≡ get_or (numbers ss) i 0 → numbers (set ss i t) ≡ numbers ss
  numbers-write e = numbers-set ss i t e

  pub rows-mark : t.live ≡ false → live_rows (set ss i t) ≡ others n (live_rows ss)
  rows-mark dead = live-mark 0 ss next n i t dead sound.rises (omega (arith, at.within, length-numbers ss)) at.is

  pub sound-mark : t.number ≡ get_or (numbers ss) i 0 → t.live ≡ false → IsSome (row_of n (live_rows ss)) → AreSound (set ss i t) (deleted + 1) next room capacity
  sound-mark e dead some =
      let less : length (others n (live_rows ss)) + 1 ≡ length (live_rows ss) = length-others n 0 (live_rows ss) next (live_rises 0 ss next sound.rises) some in
      let rows : length (live_rows (set ss i t)) ≡ length (others n (live_rows ss)) = ap length (rows-mark dead) in
      let same : length (set ss i t) ≡ length ss = length-set ss i t in
      record {
        rises = subst (λ ns. Rises 0 ns next) (sym (numbers-write e)) sound.rises;
        counted = omega (arith, sound.counted);
        reserved = omega (arith, sound.reserved);
      }

  pub rows-put : (row : List Value) → t.live ≡ true → t.number ≡ n → t.row ≡ row → live_rows (set ss i t) ≡ put n row (live_rows ss)
  rows-put row live named rowed = live-put 0 ss next n i row t live named rowed sound.rises (omega (arith, at.within, length-numbers ss)) at.is

  pub rows-replace : (row : List Value) → t.live ≡ true → t.number ≡ n → t.row ≡ row → IsSome (row_of n (live_rows ss)) → live_rows (set ss i t) ≡ map (replaced n row) (live_rows ss)
  rows-replace row live named rowed some = rows-put row live named rowed ∙ put-replaces n row row 0 (live_rows ss) next (live_rises 0 ss next sound.rises) some

  -- after a slot is written, where the number of live rows is known
  pub sound-write : (fewer : ℕ) → t.number ≡ n → length (live_rows (set ss i t)) + fewer ≡ length ss → AreSound (set ss i t) fewer next room capacity
  sound-write fewer named counted =
      let same : length (set ss i t) ≡ length ss = length-set ss i t in
      record {
        rises = subst (λ ns. Rises 0 ns next) (sym (numbers-write (named ∙ sym at.is))) sound.rises;
        counted = omega arith;
        reserved = omega (arith, sound.reserved);
      }

  pub sound-replace : (row : List Value) → t.live ≡ true → t.number ≡ n → t.row ≡ row → IsSome (row_of n (live_rows ss)) → AreSound (set ss i t) deleted next room capacity
  sound-replace row live named rowed some =
      let all : length (live_rows (set ss i t)) ≡ length (live_rows ss) = ap length (rows-replace row live named rowed some) ∙ length-map (live_rows ss) (replaced n row) in
      sound-write deleted named (omega (arith, sound.counted))

  -- a slot that held a row takes another, or one that held none
  pub sound-put_live : (d : Slot) → t.live ≡ true → t.number ≡ n → (get_or ss i d).live ≡ true → AreSound (set ss i t) deleted next room capacity
  sound-put_live d live named was =
      let all : length (live_rows (set ss i t)) ≡ length (live_rows ss) = length-live_set ss i t d live (omega (arith, at.within, length-numbers ss)) ∙ ap (λ b. cond b (length (live_rows ss)) (length (live_rows ss) + 1)) was in
      sound-write deleted named (omega (arith, sound.counted))

  length-put_dead : (d : Slot) → t.live ≡ true → (get_or ss i d).live ≡ false → length (live_rows (set ss i t)) ≡ length (live_rows ss) + 1
  length-put_dead d live was = length-live_set ss i t d live (omega (arith, at.within, length-numbers ss)) ∙ ap (λ b. cond b (length (live_rows ss)) (length (live_rows ss) + 1)) was

  pub some_deleted : (d : Slot) → t.live ≡ true → (get_or ss i d).live ≡ false → 1 ≤ deleted
  some_deleted d live was =
      let more = length-put_dead d live was in let most = live_at_most (set ss i t) in let same : length (set ss i t) ≡ length ss = length-set ss i t in
      omega (arith, sound.counted)

  pub sound-put_dead : (d : Slot) → t.live ≡ true → t.number ≡ n → (get_or ss i d).live ≡ false → AreSound (set ss i t) (deleted - 1) next room capacity
  sound-put_dead d live named was =
      let more = length-put_dead d live was in let some = some_deleted d live was in
      sound-write (deleted - 1) named (omega (arith, sound.counted))

-- ---- a new slot at the end

pub rows-push : (ss : List Slot) (t : Slot) → t.live ≡ true → live_rows (ss ++ t ∷ []) ≡ live_rows ss ++ (t.number, t.row) ∷ []
rows-push ss t live = live-append ss (t ∷ []) ∙ ap (λ b. live_rows ss ++ cond b ((t.number, t.row) ∷ []) []) live

pub numbers-push : (ss : List Slot) (t : Slot) → numbers (ss ++ t ∷ []) ≡ numbers ss ++ t.number ∷ []
numbers-push ss t = map_push (λ s. s.number) ss t

pub sound-push : (ss : List Slot) (deleted next room capacity more : ℕ) (t : Slot) → AreSound ss deleted next room capacity → capacity ≤ more → 0 < room → t.live ≡ true → t.number ≡ next → AreSound (ss ++ t ∷ []) deleted (next + 1) (room - 1) more
sound-push ss deleted next room capacity more t sound le some live named =
    let rows : length (live_rows (ss ++ t ∷ [])) ≡ length (live_rows ss) + 1 = ap length (rows-push ss t live) ∙ length_push (live_rows ss) (t.number, t.row) in
    let slots : length (ss ++ t ∷ []) ≡ length ss + 1 = length_push ss t in
    record {
      rises = subst (λ ns. Rises 0 ns (next + 1)) (ap (λ n. numbers ss ++ n ∷ []) (sym named) ∙ sym (numbers-push ss t)) (rises_push 0 (numbers ss) next sound.rises);
      counted = omega (arith, sound.counted);
      reserved = omega (arith, sound.reserved);
    }

-- ---- the last slot taken away

pub popped : (ss rest : List Slot) (r : Option Slot) → ss ≡ rest ++ option_to_list r → (0 < length ss → IsSome r) → 0 < length ss → (s : Slot) × (ss ≡ rest ++ s ∷ [])
popped ss rest None e some lt = absurd (false≢true (some lt))
popped ss rest (Some s) e some lt = (s, e)

module _ (ss rest : List Slot) (s : Slot) (e : ss ≡ rest ++ s ∷ []) (rows : List Numbered) (m : ℕ) (row : List Value) (deleted room capacity same : ℕ) (sound : AreSound ss deleted (m + 1) room capacity) (last : live_rows ss ≡ rows ++ (m, row) ∷ []) where
  pub rows-pop : (live_rows rest ≡ rows) × (s.number ≡ m)
  rows-pop = live-last rest s rows m row (subst (λ l. Rises 0 (numbers l) (m + 1)) e sound.rises) (sym (ap live_rows e) ∙ last)

  pub numbers-pop : numbers ss ≡ numbers rest ++ m ∷ []
  numbers-pop = ap numbers e ∙ numbers-push rest s ∙ ap (λ n. numbers rest ++ n ∷ []) rows-pop.1

  pub sound-pop : same ≡ capacity → AreSound rest deleted m (room + 1) same
  sound-pop c =
      let fewer : length ss ≡ length rest + 1 = ap length e ∙ length_push rest s in
      let all : length (live_rows ss) ≡ length (live_rows rest) + 1 = ap length last ∙ length_push rows (m, row) ∙ ap (λ l. length l + 1) (sym rows-pop.0) in
      record {
        rises = (rises_front 0 (numbers rest) m (m + 1) (subst (λ ns. Rises 0 ns (m + 1)) numbers-pop sound.rises)).0;
        counted = omega (arith, sound.counted);
        reserved = omega (arith, sound.reserved);
      }

-- ---- settling

pub length-numbers_of : (rows : List Numbered) → length (numbers_of rows) ≡ length rows
length-numbers_of rows = length-map rows (λ r. r.0)

pub sound-settle : (ss kept : List Slot) (deleted next room capacity same : ℕ) → kept ≡ live_slots ss → same ≡ capacity → AreSound ss deleted next room capacity → AreSound kept 0 next room same
sound-settle ss kept deleted next room capacity same e c sound =
    let named : numbers kept ≡ numbers_of (live_rows ss) = ap numbers e ∙ numbers-live ss in
    let counted : length kept ≡ length (live_rows ss) = sym (length-numbers kept) ∙ ap length named ∙ length-numbers_of (live_rows ss) in
    let rows : length (live_rows kept) ≡ length (live_rows ss) = ap (λ s. length (live_rows s)) e ∙ ap length (live-live ss) in
    record {
      rises = subst (λ ns. Rises 0 ns next) (sym named) (live_rises 0 ss next sound.rises);
      counted = omega arith;
      reserved = omega (arith, sound.counted, sound.reserved);
    }
