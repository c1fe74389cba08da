-- How many connections have a session, where one comes or goes.
use Rattle.std.proofs.Common.{◌≡◌, ◌≢◌, ◌∙◌, sym, ap, ℕ, zero, suc, ◌+◌, ◌≤◌, Bool, true, false, cond, List, [], ◌∷◌, get_or, count_by, Option, Some, None, arith, refl}
use Rattle.std.specs.Prelude.{IfNone}
use Rattle.std.proofs.lemmas.List.Sums.{sum_by-cons}
use Rattle.std.proofs.lemmas.Option.{none-some}
use Rattle.slab.specs.Slab.{Slab, Updates, get}
use Rattle.sb_server.specs.Sessions.{has_one, session_count}

module _ {X : Type 0} (has : X → Bool) where
  abbrev Slots : Type 0
  Slots = List (Option X)

  abbrev count : Slots → ℕ
  count xs = count_by (λ (slot : Option X). has_one slot has) xs

  abbrev bit : Option X → ℕ
  bit o = cond (has_one o has) 1 0

  count-cons : (o : Option X) (os : Slots) → count (o ∷ os) ≡ bit o + count os
  count-cons o os = sum_by-cons bit o os

  count_none : (o : Option X) (os : Slots) → o ≡ None → count (o ∷ os) ≡ count os
  count_none o os none = let first : bit o ≡ 0 = ap bit none in omega (arith, first, count-cons o os)

  count_same : (xs ys : Slots) → ((j : ℕ) → get_or ys j None ≡ get_or xs j None) → count ys ≡ count xs
  count_same [] [] same = refl
  count_same [] (y ∷ ys) same = count_none y ys (same 0) ∙ count_same [] ys (λ j. same (suc j))
  count_same (x ∷ xs) [] same = count_same xs [] (λ j. same (suc j)) ∙ sym (count_none x xs (sym (same 0)))
  count_same (x ∷ xs) (y ∷ ys) same =
      let first : bit y ≡ bit x = ap bit (same 0) in
      let rest = count_same xs ys (λ j. same (suc j)) in
      omega (arith, first, rest, count-cons x xs, count-cons y ys)

  count_put : (xs ys : Slots) (k : ℕ) (x : X) → get_or xs k None ≡ None → get_or ys k None ≡ Some x → ((j : ℕ) → j ≢ k → get_or ys j None ≡ get_or xs j None) → count ys ≡ count xs + bit (Some x)
  count_put xs [] k x was is others = absurd (none-some x is)
  count_put [] (y ∷ ys) zero x was is others =
      let first : bit y ≡ bit (Some x) = ap bit is in
      let rest = count_same [] ys (λ j. others (suc j) (λ same. omega (arith, same))) in
      omega (arith, first, rest, count-cons y ys)
  count_put (o ∷ xs) (y ∷ ys) zero x was is others =
      let first : bit y ≡ bit (Some x) = ap bit is in
      let rest = count_same xs ys (λ j. others (suc j) (λ same. omega (arith, same))) in
      omega (arith, first, rest, count-cons y ys, count_none o xs was)
  count_put [] (y ∷ ys) (suc k) x was is others =
      let rest = count_put [] ys k x refl is (λ j differs. others (suc j) (λ same. differs (omega (arith, same)))) in
      omega (arith, rest, count_none y ys (others 0 (λ same. omega (arith, same))))
  count_put (o ∷ xs) (y ∷ ys) (suc k) x was is others =
      let first : bit y ≡ bit o = ap bit (others 0 (λ same. omega (arith, same))) in
      let rest = count_put xs ys k x was is (λ j differs. others (suc j) (λ same. differs (omega (arith, same)))) in
      omega (arith, first, rest, count-cons o xs, count-cons y ys)

  -- the same slots
  pub sessions_kept : (old new : Slab X) → new.slots ≡ old.slots → session_count new has ≡ session_count old has
  unfolding session_count
  sessions_kept old new same = ap count same

  -- one more
  pub sessions_put : (old new : Slab X) (key : ℕ) (x : X) → get old key ≡ None → Updates old new key (Some x) → session_count new has ≡ session_count old has + bit (Some x)
  unfolding session_count
  sessions_put old new key x was updates = count_put old.slots new.slots key x was updates.changed updates.others

  -- one less
  pub sessions_removed : (old new : Slab X) (key : ℕ) (x : X) → get old key ≡ Some x → Updates old new key None → session_count old has ≡ session_count new has + bit (Some x)
  unfolding session_count
  sessions_removed old new key x was updates = count_put new.slots old.slots key x updates.changed was (λ other differs. sym (updates.others other differs))

  -- one that is taken out, if there is one
  pub sessions_taken : (old new : Slab X) (key : ℕ) (o : Option X) → o ≡ get old key → Updates old new key None → IfNone o (new ≡ old) → session_count old has ≡ session_count new has + bit o
  sessions_taken old new key None is updates same =
      let all : session_count new has ≡ session_count old has = ap (λ (s : Slab X). session_count s has) same in omega (arith, all)
  sessions_taken old new key (Some x) is updates same = sessions_removed old new key x (sym is) updates

-- a session that stays is counted
pub keeps_bit : (a b : Bool) → (a ≡ true → b ≡ true) → cond a 1 0 ≤ cond b 1 0
keeps_bit false b stays = omega arith
keeps_bit true b stays = let is : b ≡ true = stays refl in rw is (omega arith)
