-- Lists that are compared from a place on.
use Rattle.std.proofs.Common.{◌≡◌, ℕ, zero, suc, ◌+◌, ◌<◌, Bool, false, ◌||◌, ◌==◌, List, [], ◌∷◌, length, map, drop, Option, Some, None, option_map, refl, sym, ap, ◌∙◌, subst, arith, add-one}
use Rattle.std.specs.List.{slice_get}
use Rattle.std.proofs.lemmas.Option.{none-some, same_Some, slice_get-map}
use Rattle.std.proofs.lemmas.List.Elements.{All-cons}
use Rattle.sb_value.specs.Flags.{flag_at}
use Rattle.sb_value.specs.Table.{Entry, IsTable, has_table}
use Rattle.sb_tables.specs.Held.{Held, entries, entry_of}
use Rattle.sb_catalog.specs.Ruleset.{Ruleset}
use Rattle.sb_tenant.specs.Alike.{shown}
use Rattle.sb_tenant.specs.Compared.{AreSettled, AreSettledFrom, AreSameFrom, ShowAlikeFrom}

-- ---- a list from a place on

drop-at : {A : Type 0} (xs : List A) (k : ℕ) (x : A) → slice_get xs k ≡ Some x → drop k xs ≡ x ∷ drop (suc k) xs
drop-at [] zero x h = absurd (none-some x h)
drop-at [] (suc k) x h = absurd (none-some x h)
drop-at (y ∷ ys) zero x h = λ i. same_Some y x h i ∷ ys
drop-at (y ∷ ys) (suc k) x h = drop-at ys k x h

pub from_place : {A : Type 0} (xs : List A) (k : ℕ) (x : A) → slice_get xs k ≡ Some x → drop k xs ≡ x ∷ drop (k + 1) xs
from_place xs k x h = rw (add-one k) (drop-at xs k x h)

pub past_place : {A : Type 0} (xs : List A) (k : ℕ) → slice_get xs k ≡ None → drop k xs ≡ drop (k + 1) xs
past_place xs k h = rw (add-one k) (past xs k h)
  where
    past : {A : Type 0} (xs : List A) (k : ℕ) → slice_get xs k ≡ None → drop k xs ≡ drop (suc k) xs
    past [] zero h = refl
    past [] (suc k) h = refl
    past (y ∷ ys) zero h = absurd (none-some _ (sym h))
    past (y ∷ ys) (suc k) h = past ys k h

pub same_more : {A : Type 0} (one other : List A) (k : ℕ) (x y : A) → slice_get one k ≡ Some x → slice_get other k ≡ Some y → x ≡ y → AreSameFrom one other (k + 1) → AreSameFrom one other k
same_more one other k x y at there same rest = from_place one k x at ∙ (λ i. same i ∷ rest i) ∙ sym (from_place other k y there)

-- ---- tables

pub entries_from : (tables : List Held) (k : ℕ) (h : Held) → slice_get tables k ≡ Some h → drop k (entries tables) ≡ entry_of h ∷ drop (k + 1) (entries tables)
entries_from tables k h at = from_place (entries tables) k (entry_of h) (slice_get-map entry_of tables k ∙ ap (option_map entry_of) at)

pub entries_past : (tables : List Held) (k : ℕ) → slice_get tables k ≡ None → drop k (entries tables) ≡ drop (k + 1) (entries tables)
entries_past tables k at = past_place (entries tables) k (slice_get-map entry_of tables k ∙ ap (option_map entry_of) at)

pub settled_more : (tables : List Held) (k : ℕ) (h : Held) → slice_get tables k ≡ Some h → IsTable h.stored.table → has_table (drop (k + 1) (entries tables)) h.id ≡ false →
    AreSettledFrom tables (k + 1) → AreSettledFrom tables k
settled_more tables k h at is_table own rest = subst AreSettled (sym (entries_from tables k h at)) ((own, rest.0), All-cons (λ e. IsTable e.table) (entry_of h) (drop (k + 1) (entries tables)) is_table rest.1)

pub shown_more : (one other : List Held) (k : ℕ) (h g : Held) → slice_get one k ≡ Some h → slice_get other k ≡ Some g → shown (entry_of h) ≡ shown (entry_of g) →
    ShowAlikeFrom one other (k + 1) → ShowAlikeFrom one other k
shown_more one other k h g at there same rest =
    ap (map shown) (entries_from one k h at) ∙ (λ i. same i ∷ rest i) ∙ sym (ap (map shown) (entries_from other k g there))

pub number_more : (tables : List Held) (k : ℕ) (h : Held) (id : ℕ) → slice_get tables k ≡ Some h →
    has_table (drop k (entries tables)) id ≡ ((h.id == id) || has_table (drop (k + 1) (entries tables)) id)
number_more tables k h id at = ap (λ (es : List Entry). has_table es id) (entries_from tables k h at)

-- ---- rulesets

pub ruleset_at : (o : Option Ruleset) (name : List ℕ) (rules : List Bool) → option_map {U = List ℕ × List Bool} (λ s. (s.name, s.rules)) o ≡ Some (name, rules) → o ≡ Some (record { name = name; rules = rules })
ruleset_at None name rules h = absurd (none-some _ h)
ruleset_at (Some s) name rules h = ap (λ (p : List ℕ × List Bool). Some (record { name = p.0; rules = p.1 })) (same_Some (s.name, s.rules) (name, rules) h)

-- ---- flags

pub flags_are : (xs ys : List Bool) → length xs ≡ length ys → ((k : ℕ) → k < length xs → flag_at xs k ≡ flag_at ys k) → xs ≡ ys
flags_are [] [] same h = refl
flags_are [] (y ∷ ys) same h = absurd (omega (arith, same))
flags_are (x ∷ xs) [] same h = absurd (omega (arith, same))
flags_are (x ∷ xs) (y ∷ ys) same h =
    λ i. h 0 (omega arith) i ∷ flags_are xs ys (omega (arith, same)) (λ k below. h (suc k) (omega (arith, below))) i
