-- What a log in places is seen as, by the order of the places in use.
use Rattle.std.proofs.Common.{◌≡◌, ℕ, zero, suc, ◌+◌, ◌<◌, ◌≤◌, Bool, true, false, cond, not, ◌&&◌, ◌==◌, nat_lt, inl, inr, List, [], ◌∷◌, ◌++◌, reverse, length, get_or, Option, Some, None, refl, sym, ap, ◌∙◌, subst, arith, append_assoc, append-nil}
use Rattle.std.specs.List.{filter, list_all}
use Rattle.std.proofs.lemmas.List.{reverse-append, reverse-reverse, length-reverse}
use Rattle.std.proofs.lemmas.List.Elements.{filter-append}
use Rattle.std.proofs.lemmas.List.Folds.{list_all-append}
use Rattle.std.proofs.lemmas.Bool.{lt-ltb, ltb-true, and_parts}
use Rattle.sb_value.specs.declared.change.Change.{Change}
use Rattle.sb_rawlog.specs.declared.node.Node.{Node}
use Rattle.sb_rawlog.specs.Links.{time_in, time_at, Member}
use Rattle.sb_rawlog.specs.Logs.{with_entry, entries, Falls, entry_in, shown}
use Rattle.sb_rawlog.proofs.Orders.{older, entries_older}
use Rattle.sb_rawlog.specs.Records.{Record, Rising, selected, walk, before, without, change_at}
use Rattle.sb_rawlog.specs.Search.{selects}
use Rattle.sb_rawlog.proofs.Rises.{rising-push, before-split, change_at-split, rising-filter}
use Rattle.sb_rawlog.proofs.Sessions.{filter-swap, filter-implied, filter_passed}

-- ---- one place

pub get-shown : (cs : List (Option (Node Change))) (p : ℕ) → get_or (shown cs) p None ≡ entry_in (get_or cs p None)
get-shown [] p = refl
get-shown (c ∷ cs) zero = refl
get-shown (c ∷ cs) (suc p) = get-shown cs p

-- the node of a place that is seen to hold a change
pub shown_node : (c : Option (Node Change)) (r : Record) → entry_in c ≡ Some r → (n : Node Change) × (c ≡ Some n) × ((n.time, n.item) ≡ r)
shown_node None r e = absurd (cc)
shown_node (Some n) r e = (n, refl, cc)

-- ---- lists that are turned round

module _ {X : Type 0} where
  pub reverse_first : (x : X) (xs : List X) → reverse (x ∷ xs) ≡ reverse xs ++ x ∷ []
  reverse_first x xs = reverse-append (x ∷ []) xs

  pub filter-reverse : (f : X → Bool) (xs : List X) → filter f (reverse xs) ≡ reverse (filter f xs)
  filter-reverse f [] = refl
  filter-reverse f (x ∷ xs) =
      ap (filter f) (reverse_first x xs) ∙ filter-append f (reverse xs) (x ∷ []) ∙ ap (λ l. l ++ cond (f x) (x ∷ []) []) (filter-reverse f xs)
      ∙ elim (f x) as (λ b. reverse (filter f xs) ++ cond b (x ∷ []) [] ≡ reverse (cond b (x ∷ filter f xs) (filter f xs))) [
        | true ↦ sym (reverse_first x (filter f xs))
        | false ↦ append-nil (reverse (filter f xs))
      ]

  -- the first element that a test selects, with what is in front of it and behind it
  pub split_first : (f : X → Bool) (xs rest : List X) (x : X) → filter f xs ≡ x ∷ rest → (us : List X) × ((vs : List X) × ((xs ≡ us ++ x ∷ vs) × (rest ≡ filter f vs)))
  split_first f [] rest x e = absurd (cc)
  split_first f (y ∷ xs) rest x e = elim (f y) as (λ b. cond b (y ∷ filter f xs) (filter f xs) ≡ x ∷ rest → (us : List X) × ((vs : List X) × ((y ∷ xs ≡ us ++ x ∷ vs) × (rest ≡ filter f vs)))) [
    | true ↦ λ e. let a : y ≡ x = cc in let b : filter f xs ≡ rest = cc in ([], (xs, (ap (λ z. z ∷ xs) a, sym b)))
    | false ↦ λ e. let on = split_first f xs rest x e in (y ∷ on.0, (on.1.0, (ap (λ l. y ∷ l) on.1.1.0, on.1.1.1)))
  ] e

  pub turned : (us vs : List X) (x : X) → reverse (us ++ x ∷ vs) ≡ reverse vs ++ x ∷ reverse us
  turned us vs x = reverse-append us (x ∷ vs) ∙ ap (λ l. l ++ reverse us) (reverse_first x vs) ∙ append_assoc (reverse vs) (x ∷ []) (reverse us)

  passes : (f : X → Bool) (xs us vs : List X) (x : X) → filter f xs ≡ us ++ x ∷ vs → f x ≡ true
  passes f xs us vs x e =
      let all : list_all f (us ++ x ∷ vs) ≡ true = ap (list_all f) (sym e) ∙ filter_passed f xs in
      (and_parts (f x) (list_all f vs) (and_parts (list_all f us) (f x && list_all f vs) (sym (list_all-append f us (x ∷ vs)) ∙ all)).1).0

-- ---- records in rising time

pub rising_higher : (low : ℕ) (rs : List Record) (clock higher : ℕ) → clock ≤ higher → Rising low rs clock → Rising low rs higher
rising_higher low [] clock higher le h = omega (arith, h)
rising_higher low (r ∷ rs) clock higher le h = (h.0, rising_higher (r.0 + 1) rs clock higher le h.1)

pub falls-rise : (cs : List (Option (Node Change))) (top : ℕ) (ps : List ℕ) → Falls cs top ps → Rising 0 (reverse (entries cs ps)) top
falls-rise cs top [] h = omega arith
falls-rise cs top (p ∷ ps) h =
    let n : Node Change = h.0.0 in let when : time_at cs p ≡ n.time = ap time_in h.0.1 in
    let rest : Rising 0 (reverse (entries cs ps)) n.time = subst (λ t. Rising 0 (reverse (entries cs ps)) t) when (falls-rise cs (time_at cs p) ps h.2) in
    let all : Rising 0 (reverse (entries cs ps) ++ (n.time, n.item) ∷ []) top = rising_higher 0 _ (n.time + 1) top (omega (arith, h.1)) (rising-push 0 (reverse (entries cs ps)) n.time n.item rest) in
    subst (λ (l : List Record). Rising 0 l top) (sym (ap (λ c. reverse (with_entry c (entries cs ps))) h.0.1 ∙ reverse_first (n.time, n.item) (entries cs ps))) all

-- a place in use has its entry
entry_there : (cs : List (Option (Node Change))) (p top : ℕ) (ps : List ℕ) (n : Node Change) → Falls cs top ps → Member p ps → get_or cs p None ≡ Some n
    → (us : List Record) × ((vs : List Record) × (entries cs ps ≡ us ++ (n.time, n.item) ∷ vs))
entry_there cs p top [] n h m e = absurd m
entry_there cs p top (q ∷ qs) n h m e = elim m [
  | inl is ↦ ([], (entries cs qs, ap (λ c. with_entry c (entries cs qs)) (ap (λ k. get_or cs k None) (sym is) ∙ e)))
  | inr r ↦ let on = entry_there cs p (time_at cs q) qs n h.2 r e in let k : Node Change = h.0.0 in ((k.time, k.item) ∷ on.0, (on.1.0, ap (λ c. with_entry c (entries cs qs)) h.0.1 ∙ ap (λ l. (k.time, k.item) ∷ l) on.1.1))
]

-- the change of its time is the place's
pub change_there : (cs : List (Option (Node Change))) (p top : ℕ) (ps : List ℕ) (n : Node Change) (rs : List Record) → rs ≡ reverse (entries cs ps) → Falls cs top ps → Member p ps → get_or cs p None ≡ Some n → change_at n.time rs ≡ Some n.item
change_there cs p top ps n rs is h m e =
    let cut = entry_there cs p top ps n h m e in let us = cut.0 in let vs = cut.1.0 in let r : Record = (n.time, n.item) in
    let shape : rs ≡ reverse vs ++ r ∷ reverse us = is ∙ ap reverse cut.1.1 ∙ turned us vs r in
    let up : Rising 0 (reverse vs ++ r ∷ reverse us) top = subst (λ (l : List Record). Rising 0 l top) (sym is ∙ shape) (falls-rise cs top ps h) in
    ap (change_at n.time) shape ∙ change_at-split r (reverse us) 0 (reverse vs) top up

-- ---- walks

module _ (p : Change → Bool) (since : ℕ) where
  pub walk-turned : (es : List Record) → walk p since (reverse es) ≡ filter (selects p since) es
  unfolding walk selected
  walk-turned es = ap reverse (filter-reverse (selects p since) es) ∙ reverse-reverse (filter (selects p since) es)

  -- what is selected first, and the rest of the walk
  pub first_found : (es rs : List Record) (clock : ℕ) (r : Record) (rest : List Record) → rs ≡ reverse es → Rising 0 rs clock → filter (selects p since) es ≡ r ∷ rest → walk p since rs ≡ r ∷ walk p since (before r.0 rs)
  first_found es rs clock r rest is up e =
      let cut = split_first (selects p since) es rest r e in let us = cut.0 in let vs = cut.1.0 in
      let shape : rs ≡ reverse vs ++ r ∷ reverse us = is ∙ ap reverse cut.1.1.0 ∙ turned us vs r in
      let behind : before r.0 rs ≡ reverse vs = ap (before r.0) shape ∙ before-split r (reverse us) 0 (reverse vs) clock (subst (λ (l : List Record). Rising 0 l clock) shape up) in
      ap (walk p since) is ∙ walk-turned es ∙ e ∙ ap (λ l. r ∷ l) (cut.1.1.1 ∙ sym (walk-turned vs) ∙ sym (ap (walk p since) behind))

  pub none_found : (es rs : List Record) → rs ≡ reverse es → filter (selects p since) es ≡ [] → walk p since rs ≡ []
  none_found es rs is e = ap (walk p since) is ∙ walk-turned es ∙ e

pub before-turned : (t : ℕ) (es : List Record) → before t (reverse es) ≡ reverse (filter (λ e. nat_lt e.0 t) es)
unfolding before
before-turned t es = filter-reverse (λ e. nat_lt e.0 t) es

-- the records before a time, from the places that are older
pub before-places : (cs : List (Option (Node Change))) (t : ℕ) (ps : List ℕ) (rs : List Record) → rs ≡ reverse (entries cs ps) → before t rs ≡ reverse (entries cs (older cs t ps))
before-places cs t ps rs is = ap (before t) is ∙ before-turned t (entries cs ps) ∙ ap reverse (sym (entries_older cs t ps))

pub rising-before : (t : ℕ) (rs : List Record) (clock : ℕ) → Rising 0 rs clock → Rising 0 (before t rs) clock
unfolding before
rising-before t rs clock up = rising-filter (λ r. nat_lt r.0 t) 0 rs clock up

pub before-before : (s t : ℕ) (rs : List Record) → s ≤ t → before s (before t rs) ≡ before s rs
unfolding before
before-before s t rs le =
    filter-swap (λ (r : Record). nat_lt r.0 s) (λ r. nat_lt r.0 t) rs ∙ filter-implied (λ (r : Record). nat_lt r.0 t) (λ r. nat_lt r.0 s) (λ r e. let lt = ltb-true r.0 s e in lt-ltb r.0 t (omega arith)) rs

-- the first that is selected before a time is older
pub first_older : (f : Record → Bool) (t : ℕ) (es : List Record) (r : Record) (rest : List Record) → filter f (filter (λ e. nat_lt e.0 t) es) ≡ r ∷ rest → r.0 < t
first_older f t es r rest e =
    let cut = split_first f (filter (λ e. nat_lt e.0 t) es) rest r e in ltb-true r.0 t (passes (λ q. nat_lt q.0 t) es cut.0 cut.1.0 r cut.1.1.0)

pub length-seen : (es rs : List Record) → rs ≡ reverse es → length rs ≡ length es
length-seen es rs is = ap length is ∙ length-reverse es

pub without-turned : (t : ℕ) (es : List Record) → without t (reverse es) ≡ reverse (filter (λ e. not (e.0 == t)) es)
unfolding without
without-turned t es = filter-reverse (λ e. not (e.0 == t)) es
