-- What a log holds of one session, after a change of the log.
use Rattle.std.proofs.Common.{◌≡◌, ◌≢◌, ℕ, ◌+◌, ◌<◌, Bool, true, false, not, cond, ◌&&◌, ◌==◌, List, [], ◌∷◌, ◌++◌, reverse, append-nil, eq-eqb, eqb-true, Option, Some, None, nat_lt, nat_le, refl, sym, ap, ◌∙◌, arith}
use Rattle.std.specs.List.{filter, list_all}
use Rattle.std.proofs.lemmas.List.{reverse-append, reverse-reverse, map-append}
use Rattle.std.proofs.lemmas.List.Elements.{filter-append}
use Rattle.std.proofs.lemmas.List.Folds.{list_all-append}
use Rattle.std.proofs.lemmas.Bool.{le-leb, ltb-true, false_from_ne_true, not_from_true, and_parts}
use Rattle.sb_value.specs.declared.id.Who.{Who}
use Rattle.sb_value.specs.declared.change.Change.{Change}
use Rattle.sb_rawlog.specs.Changes.{author, is_by}
use Rattle.sb_rawlog.specs.Records.{Record, Rising, selected, walk, before, without, others, change_at}
use Rattle.sb_rawlog.specs.Sessions.{records_by, changes, changes_by, OthersStay, TakesLast}
use Rattle.sb_rawlog.specs.Steps.{Newest, TakesNewest}
use Rattle.sb_rawlog.proofs.Rises.{without-above}

-- ---- whose change it is

pub is_by-author : (c : Change) → is_by (author c) c ≡ true
is_by-author c = ap (λ b. b && (c.session == c.session)) (eq-eqb c.tenant c.tenant refl) ∙ eq-eqb c.session c.session refl

pub author_is : (who : Who) (c : Change) → is_by who c ≡ true → author c ≡ who
author_is who c h =
    let tenant : c.tenant ≡ who.tenant = eqb-true c.tenant who.tenant (and_parts (c.tenant == who.tenant) (c.session == who.session) h).0 in
    let session : c.session ≡ who.session = eqb-true c.session who.session (and_parts (c.tenant == who.tenant) (c.session == who.session) h).1 in
    λ i. record { tenant = tenant i; session = session i }

-- no change is by two sessions
pub by_one : (who other : Who) (c : Change) → other ≢ who → is_by who c ≡ true → is_by other c ≡ false
by_one who other c apart h = false_from_ne_true (is_by other c) (λ g. apart (sym (author_is other c g) ∙ author_is who c h))

not_author : (other : Who) (c : Change) → other ≢ author c → is_by other c ≡ false
not_author other c apart = by_one (author c) other c apart (is_by-author c)

-- ---- lists that a test selects

module _ {X : Type 0} (p q : X → Bool) where
  pub filter-swap : (xs : List X) → filter p (filter q xs) ≡ filter q (filter p xs)
  filter-swap [] = refl
  filter-swap (x ∷ xs) = elim (q x) as (λ b. (q x ≡ b) → filter p (cond b (x ∷ filter q xs) (filter q xs)) ≡ filter q (cond (p x) (x ∷ filter p xs) (filter p xs))) [
    | true ↦ λ e. elim (p x) as (λ a. cond a (x ∷ filter p (filter q xs)) (filter p (filter q xs)) ≡ filter q (cond a (x ∷ filter p xs) (filter p xs))) [
      | true ↦ ap (λ l. x ∷ l) (filter-swap xs) ∙ sym (ap (λ b. cond b (x ∷ filter q (filter p xs)) (filter q (filter p xs))) e)
      | false ↦ filter-swap xs
    ]
    | false ↦ λ e. filter-swap xs ∙ elim (p x) as (λ a. filter q (filter p xs) ≡ filter q (cond a (x ∷ filter p xs) (filter p xs))) [
      | true ↦ sym (ap (λ b. cond b (x ∷ filter q (filter p xs)) (filter q (filter p xs))) e)
      | false ↦ refl
    ]
  ] refl

  -- a test that another one implies
  pub filter-implied : ((x : X) → q x ≡ true → p x ≡ true) → (xs : List X) → filter p (filter q xs) ≡ filter q xs
  filter-implied h [] = refl
  filter-implied h (x ∷ xs) = elim (q x) as (λ b. (q x ≡ b) → filter p (cond b (x ∷ filter q xs) (filter q xs)) ≡ cond b (x ∷ filter q xs) (filter q xs)) [
    | true ↦ λ e. ap (λ b. cond b (x ∷ filter p (filter q xs)) (filter p (filter q xs))) (h x e) ∙ ap (λ l. x ∷ l) (filter-implied h xs)
    | false ↦ λ e. filter-implied h xs
  ] refl

  -- two tests that never hold together
  pub filter-apart : ((x : X) → q x ≡ true → p x ≡ false) → (xs : List X) → filter p (filter q xs) ≡ []
  filter-apart h [] = refl
  filter-apart h (x ∷ xs) = elim (q x) as (λ b. (q x ≡ b) → filter p (cond b (x ∷ filter q xs) (filter q xs)) ≡ []) [
    | true ↦ λ e. ap (λ b. cond b (x ∷ filter p (filter q xs)) (filter p (filter q xs))) (h x e) ∙ filter-apart h xs
    | false ↦ λ e. filter-apart h xs
  ] refl

  pub filter-same : ((x : X) → p x ≡ q x) → (xs : List X) → filter p xs ≡ filter q xs
  filter-same h [] = refl
  filter-same h (x ∷ xs) = λ i. cond (h x i) (x ∷ filter-same h xs i) (filter-same h xs i)

pub filter_passed : {X : Type 0} (p : X → Bool) (xs : List X) → list_all p (filter p xs) ≡ true
filter_passed p [] = refl
filter_passed {X} p (x ∷ xs) = elim (p x) as (λ b. (p x ≡ b) → list_all p (cond b (x ∷ filter p xs) (filter p xs)) ≡ true) [
  | true ↦ λ e. ap (λ b. b && list_all p (filter p xs)) e ∙ filter_passed p xs
  | false ↦ λ e. filter_passed p xs
] refl

-- the last element that a test selects passes it
last_passes : {X : Type 0} (p : X → Bool) (xs ys : List X) (x : X) → filter p xs ≡ ys ++ x ∷ [] → p x ≡ true
last_passes p xs ys x e =
    let all : list_all p (ys ++ x ∷ []) ≡ true = ap (list_all p) (sym e) ∙ filter_passed p xs in
    let end : (p x && true) ≡ true = (and_parts (list_all p ys) (p x && true) (sym (list_all-append p ys (x ∷ [])) ∙ all)).1 in
    (and_parts (p x) true end).0

-- ---- a change is added

module _ (rs : List Record) (time : ℕ) (c : Change) where
  by_pushed : (who : Who) → records_by who (rs ++ (time, c) ∷ []) ≡ records_by who rs ++ cond (is_by who c) ((time, c) ∷ []) []
  unfolding records_by
  by_pushed who = filter-append (λ r. is_by who r.1) rs ((time, c) ∷ [])

  pub own_pushed : changes_by (author c) (rs ++ (time, c) ∷ []) ≡ changes_by (author c) rs ++ c ∷ []
  own_pushed =
      ap changes (by_pushed (author c) ∙ ap (λ b. records_by (author c) rs ++ cond b ((time, c) ∷ []) []) (is_by-author c))
      ∙ map-append (λ (r : Record). r.1) (records_by (author c) rs) ((time, c) ∷ [])

  pub others_pushed : OthersStay (author c) rs (rs ++ (time, c) ∷ [])
  others_pushed other apart =
      by_pushed other ∙ ap (λ b. records_by other rs ++ cond b ((time, c) ∷ []) []) (not_author other c apart) ∙ append-nil (records_by other rs)

-- ---- all of a session's changes are taken out

pub own_forgotten : (who : Who) (rs : List Record) → changes_by who (others who rs) ≡ []
unfolding records_by others
own_forgotten who rs =
    ap changes (filter-swap (λ (r : Record). is_by who r.1) (λ r. not (is_by who r.1)) rs ∙ filter-apart (λ (r : Record). not (is_by who r.1)) (λ r. is_by who r.1) (λ r e. not_from_true (is_by who r.1) e) rs)

pub others_kept : (who : Who) (rs : List Record) → OthersStay who rs (others who rs)
unfolding records_by others
others_kept who rs other apart =
    filter-swap (λ (r : Record). is_by other r.1) (λ r. not (is_by who r.1)) rs
    ∙ filter-implied (λ (r : Record). not (is_by who r.1)) (λ r. is_by other r.1) (λ r e. ap not (by_one other who r.1 (λ g. apart (sym g)) e)) rs

-- ---- a session's newest change is taken out

from_start : (who : Who) (rs : List Record) → selected (is_by who) 0 rs ≡ records_by who rs
unfolding selected records_by
from_start who rs = filter-same (λ (r : Record). nat_le 0 r.0 && is_by who r.1) (λ r. is_by who r.1) (λ r. ap (λ b. b && is_by who r.1) (le-leb 0 r.0 (omega arith))) rs

walked : (who : Who) (rs : List Record) → reverse (walk (is_by who) 0 rs) ≡ records_by who rs
unfolding walk
walked who rs = reverse-reverse (selected (is_by who) 0 rs) ∙ from_start who rs

module _ (who : Who) (rs : List Record) (c : Change) (n : Newest who rs c) where
  newest_last : records_by who rs ≡ records_by who (before n.time rs) ++ (n.time, c) ∷ []
  newest_last =
      sym (walked who rs) ∙ ap reverse n.first ∙ reverse-append ((n.time, c) ∷ []) (walk (is_by who) 0 (before n.time rs))
      ∙ ap (λ l. l ++ (n.time, c) ∷ []) (walked who (before n.time rs))

  pub newest_by : is_by who c ≡ true
  unfolding records_by
  newest_by = last_passes (λ (r : Record). is_by who r.1) rs (records_by who (before n.time rs)) (n.time, c) newest_last

not_there : (t : ℕ) (r : Record) → nat_lt r.0 t ≡ true → not (r.0 == t) ≡ true
not_there t r e = let lt : r.0 < t = ltb-true r.0 t e in ap not (false_from_ne_true (r.0 == t) (λ same. absurd (omega (arith, eqb-true r.0 t same, lt))))

without-before : (t : ℕ) (rs : List Record) → without t (before t rs) ≡ before t rs
unfolding without before
without-before t rs = filter-implied (λ (r : Record). not (r.0 == t)) (λ r. nat_lt r.0 t) (λ r e. not_there t r e) rs

without-this : (t : ℕ) (c : Change) (rs : List Record) → without t (rs ++ (t, c) ∷ []) ≡ without t rs
unfolding without
without-this t c rs =
    filter-append (λ (r : Record). not (r.0 == t)) rs ((t, c) ∷ [])
    ∙ ap (λ b. without t rs ++ cond (not b) ((t, c) ∷ []) []) (eq-eqb t t refl) ∙ append-nil (without t rs)

by-without : (who : Who) (t : ℕ) (rs : List Record) → records_by who (without t rs) ≡ without t (records_by who rs)
unfolding records_by without
by-without who t rs = filter-swap (λ (r : Record). is_by who r.1) (λ r. not (r.0 == t)) rs

by-before : (who : Who) (t : ℕ) (rs : List Record) → records_by who (before t rs) ≡ before t (records_by who rs)
unfolding records_by before
by-before who t rs = filter-swap (λ (r : Record). is_by who r.1) (λ r. nat_lt r.0 t) rs

module _ (who : Who) (rs : List Record) (c : Change) (n : Newest who rs c) where
  front_left : records_by who (without n.time rs) ≡ records_by who (before n.time rs)
  front_left =
      by-without who n.time rs ∙ ap (without n.time) (newest_last who rs c n) ∙ without-this n.time c (records_by who (before n.time rs))
      ∙ ap (without n.time) (by-before who n.time rs) ∙ without-before n.time (records_by who rs) ∙ sym (by-before who n.time rs)

  pub own_taken : changes_by who rs ≡ changes_by who (without n.time rs) ++ c ∷ []
  own_taken =
      ap changes (newest_last who rs c n ∙ ap (λ l. l ++ (n.time, c) ∷ []) (sym front_left))
      ∙ map-append (λ (r : Record). r.1) (records_by who (without n.time rs)) ((n.time, c) ∷ [])

-- a test that the record of the time doesn't pass
pub unchosen-without : (q : Change → Bool) (t low : ℕ) (rs : List Record) (clock : ℕ) (c : Change) → Rising low rs clock → change_at t rs ≡ Some c → q c ≡ false → filter (λ r. q r.1) (without t rs) ≡ filter (λ r. q r.1) rs
unfolding without change_at
unchosen-without q t low [] clock c up here not_so = refl
unchosen-without q t low (r ∷ rs) clock c up here not_so =
    let chosen : List Record → List Record = filter (λ r. q r.1) in
    elim (r.0 == t) as (λ b. (r.0 == t) ≡ b → cond b (Some r.1) (change_at t rs) ≡ Some c → chosen (cond (not b) (r ∷ without t rs) (without t rs)) ≡ cond (q r.1) (r ∷ chosen rs) (chosen rs)) [
      | true ↦ λ at same.
          let it : r.1 ≡ c = cc in
          let above : t < r.0 + 1 = omega (arith, eqb-true r.0 t at) in
          ap chosen (without-above t (r.0 + 1) rs clock above up.1) ∙ sym (ap (λ b. cond b (r ∷ chosen rs) (chosen rs)) (ap q it ∙ not_so))
      | false ↦ λ _ further. ap (λ l. cond (q r.1) (r ∷ l) l) (unchosen-without q t (r.0 + 1) rs clock c up.1 further not_so)
    ] refl here

untaken : (other : Who) (t : ℕ) (rs : List Record) (clock : ℕ) (c : Change) → Rising 0 rs clock → change_at t rs ≡ Some c → is_by other c ≡ false → records_by other (without t rs) ≡ records_by other rs
unfolding records_by
untaken other t rs clock c up here not_so = unchosen-without (is_by other) t 0 rs clock c up here not_so

-- nor does it belong to the others
pub others-taken : (who : Who) (rs : List Record) (clock : ℕ) (c : Change) → Rising 0 rs clock → (n : Newest who rs c) → others who (without n.time rs) ≡ others who rs
unfolding others
others-taken who rs clock c up n = unchosen-without (λ d. not (is_by who d)) n.time 0 rs clock c up n.here (not_from_true (is_by who c) (newest_by who rs c n))

-- where a session has none, all are the others'
none_of : (who : Who) (rs : List Record) → filter (λ (r : Record). is_by who r.1) rs ≡ [] → filter (λ (r : Record). not (is_by who r.1)) rs ≡ rs
none_of who [] e = refl
none_of who (r ∷ rs) e = elim (is_by who r.1) as (λ b. cond b (r ∷ filter (λ (q : Record). is_by who q.1) rs) (filter (λ (q : Record). is_by who q.1) rs) ≡ []
    → cond (not b) (r ∷ filter (λ (q : Record). not (is_by who q.1)) rs) (filter (λ (q : Record). not (is_by who q.1)) rs) ≡ r ∷ rs) [
      | true ↦ λ f. absurd (cc)
      | false ↦ λ f. ap (λ l. r ∷ l) (none_of who rs f)
    ] e

pub others-all : (who : Who) (rs : List Record) → walk (is_by who) 0 rs ≡ [] → others who rs ≡ rs
unfolding others records_by
others-all who rs e = none_of who rs (sym (walked who rs) ∙ ap reverse e)

-- ---- what is still there after a change is taken out

pub change_at-gone : (t : ℕ) (rs : List Record) → change_at t (without t rs) ≡ None
unfolding change_at without
change_at-gone t [] = refl
change_at-gone t (r ∷ rs) = elim (r.0 == t) as (λ b. (r.0 == t) ≡ b → change_at t (cond (not b) (r ∷ without t rs) (without t rs)) ≡ None) [
  | true ↦ λ _. change_at-gone t rs
  | false ↦ λ e. ap (λ b. cond b (Some r.1) (change_at t (without t rs))) e ∙ change_at-gone t rs
] refl

pub change_at-still : (s t : ℕ) (rs : List Record) (c : Change) → change_at s (without t rs) ≡ Some c → change_at s rs ≡ Some c
unfolding change_at without
change_at-still s t [] c e = e
change_at-still s t (r ∷ rs) c e = elim (r.0 == t) as (λ b. (r.0 == t) ≡ b → change_at s (cond (not b) (r ∷ without t rs) (without t rs)) ≡ Some c → cond (r.0 == s) (Some r.1) (change_at s rs) ≡ Some c) [
  | true ↦ λ at left. elim (r.0 == s) as (λ b. (r.0 == s) ≡ b → cond b (Some r.1) (change_at s rs) ≡ Some c) [
    | true ↦ λ same.
        let one : s ≡ t = sym (eqb-true r.0 s same) ∙ eqb-true r.0 t at in
        let none : change_at s (without t rs) ≡ None = ap (λ k. change_at s (without k rs)) (sym one) ∙ change_at-gone s rs in absurd (cc)
    | false ↦ λ _. change_at-still s t rs c left
  ] refl
  | false ↦ λ _ left. elim (r.0 == s) as (λ b. cond b (Some r.1) (change_at s (without t rs)) ≡ Some c → cond b (Some r.1) (change_at s rs) ≡ Some c) [
    | true ↦ λ f. f
    | false ↦ λ f. change_at-still s t rs c f
  ] left
] refl e

pub others_untaken : (who : Who) (rs : List Record) (clock : ℕ) (c : Change) → Rising 0 rs clock → (n : Newest who rs c) → OthersStay who rs (without n.time rs)
others_untaken who rs clock c up n other apart = untaken other n.time rs clock c up n.here (by_one who other c apart (newest_by who rs c n))

-- what taking the newest change out means for the sessions
pub takes_last : (who : Who) (old new : List Record) (o : Option Change) → TakesNewest who old new o → TakesLast who old new o
takes_last who old new None h = (ap changes (sym (walked who old)) ∙ ap (λ l. changes (reverse l)) h.0, h.1)
takes_last who old new (Some c) h = own_taken who old c h.0 ∙ ap (λ l. changes_by who l ++ c ∷ []) (sym h.1)

pub take_leaves_others : (who : Who) (old new : List Record) (clock : ℕ) (o : Option Change) → Rising 0 old clock → TakesNewest who old new o → OthersStay who old new
take_leaves_others who old new clock None up h other apart = ap (records_by other) h.1
take_leaves_others who old new clock (Some c) up h other apart = ap (records_by other) h.1 ∙ others_untaken who old clock c up h.0 other apart
