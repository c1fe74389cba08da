-- Each step on the deque keeps the rule.
use Rattle.std.proofs.Common.{◌≡◌, ◌≢◌, ℕ, zero, suc, ◌+◌, ◌-◌, ◌<◌, ◌≤◌, true, false, true≢false, List, [], ◌∷◌, ◌++◌, length, set, refl, sym, ap, ◌∙◌, subst, ⊎_elim, arith, append_assoc, length-append}
use Rattle.std.proofs.lemmas.List.{append-nil}
use mathlib.Core.Option.{some, some-ne-none, some-injective}
use lib.ListN.{get_elem?}
use Rattle.crossbeam_deque.specs.Tasks.{Pushes, Takes, Forks, Merges, Finds, Learns}
use Rattle.crossbeam_deque.proofs.Lists.{at_set, at_snoc}
use Rattle.sb_workers.specs.declared.work.Placed.{Placed}
use Rattle.sb_workers.specs.declared.rule.Known.{Known}
use Rattle.sb_workers.specs.Rule.{known, times, total, AreOf, InPlace, Fits, Ruled, AllOut, NoMore}
use Rattle.sb_workers.proofs.Counting.{times-append, total-append, total-set, total_at, total_known}
use Rattle.sb_workers.proofs.Tasks.{get_front, are_of-append, are_of-part, in_place-snoc}

module _ {J : Type 0} where
  abbrev All : (ℕ → Known J → Type 0) → List (Known J) → Type 0
  All F views = (id : ℕ) (v : Known J) → get_elem? views id ≡ some v → F id v

  all_set : (F : ℕ → Known J → Type 0) (views : List (Known J)) (id : ℕ) (w : Known J) → F id w → ((j : ℕ) (u : Known J) → j ≢ id → get_elem? views j ≡ some u → F j u) → All F (set views id w)
  all_set F views id w mine others j u e = ⊎_elim (λ (x : (j ≡ id) × (w ≡ u)). subst (λ (y : ℕ × Known J). F y.0 y.1) (λ i. (sym x.0 i, x.1 i)) mine)
      (λ (x : (j ≢ id) × (get_elem? views j ≡ some u)). others j u x.0 x.1) (at_set views id j w u e)

  abbrev parts_of : Known J → ℕ
  parts_of v = v.parts

  abbrev given_times : ℕ → Known J → ℕ
  given_times x v = times x v.given

  abbrev given_length : Known J → ℕ
  given_length v = length v.given

  within : (views : List (Known J)) (id : ℕ) (v : Known J) → get_elem? views id ≡ some v → id < length views
  within [] id v e = absurd (some-ne-none v (sym e))
  within (u ∷ us) zero v e = omega arith
  within (u ∷ us) (suc id) v e = let r = within us id v e in omega arith

  set_here : (l : List (Known J)) (i : ℕ) (a : Known J) → i < length l → get_elem? (set l i a) i ≡ some a
  set_here [] i a h = absurd (omega arith)
  set_here (x ∷ xs) zero a h = refl
  set_here (x ∷ xs) (suc i) a h = set_here xs i a (omega arith)

  pub begins : Ruled [] (known {J = J} 1024 true [] [] ∷ [])
  begins = (0, [], [], refl, (λ i t e. absurd cc), refl, (λ x. refl), refl, one)
    where
      one : (id : ℕ) (v : Known J) → get_elem? (known 1024 true [] [] ∷ []) id ≡ some v → Fits 0 [] id v
      one zero v e = subst (Fits 0 [] 0) (some-injective _ _ e) ((λ _. (refl, refl)), (λ j t k. absurd cc), (λ k. refl))
      one (suc id) v e = absurd (some-ne-none v (sym e))

  pub pushes : (port : ℕ) (v : Known J) (x : Placed J) → v.owns ≡ true → x.place ≡ length v.pushed → Pushes Ruled port v (x ∷ []) (λ w. w ≡ known v.parts v.owns (v.pushed ++ x ∷ []) v.given)
  pushes port v x may place items views h at =
      let w : Known J = known v.parts v.owns (v.pushed ++ x ∷ []) v.given in
      let all = h.1 in
      let mine = h.8 port v at in
      let own = mine.0 may in
      let longer : (given : List (Placed J)) → AreOf all given → AreOf (all ++ x ∷ []) given = λ given a j t e. get_front all (x ∷ []) t.place t (a j t e) in (
        w,
        (
          h.0,
          all ++ x ∷ [],
          h.2,
          ap (λ l. l ++ x ∷ []) h.3 ∙ append_assoc h.2 items (x ∷ []),
          in_place-snoc all x h.4 (place ∙ ap length own.1),
          (let s = total-set parts_of views port v w at in let p = h.5 in omega arith),
          (λ n. let s = total-set (given_times n) views port v w at in let p = h.6 n in omega arith),
          (let s = total-set given_length views port v w at in let p = h.7 in omega arith),
          all_set (Fits h.0 (all ++ x ∷ [])) views port w ((λ _. (own.0, ap (λ l. l ++ x ∷ []) own.1)), longer v.given mine.1, mine.2)
              (λ j u apart e. let f = h.8 j u e in ((λ o. absurd (apart ((f.0 o).0 ∙ sym own.0))), longer u.given f.1, f.2)),
        ),
        refl,
      )

  pub takes : (port : ℕ) (v : Known J) → 0 < v.parts → Takes Ruled port v 1 (λ xs w. (w ≡ known v.parts v.owns v.pushed (v.given ++ xs)) × NoMore w)
  takes port v some_part xs items views _ _ h at =
      let w : Known J = known v.parts v.owns v.pushed (v.given ++ xs) in
      let all = h.1 in
      let mine = h.8 port v at in
      let part : AreOf all xs = subst (λ l. AreOf l xs) (sym h.3) (are_of-part h.2 xs items (subst InPlace h.3 h.4)) in
      let lengths : total given_length (set views port w) ≡ length (h.2 ++ xs) = (let s = total-set given_length views port v w at in let p = h.7 in let a = length-append v.given xs in let b = length-append h.2 xs in omega arith) in (
        w,
        (
          h.0,
          all,
          h.2 ++ xs,
          h.3 ∙ sym (append_assoc h.2 xs items),
          h.4,
          (let s = total-set parts_of views port v w at in let p = h.5 in omega arith),
          (λ n. let s = total-set (given_times n) views port v w at in let p = h.6 n in let a = times-append n v.given xs in let b = times-append n h.2 xs in omega arith),
          lengths,
          all_set (Fits h.0 all) views port w (mine.0, are_of-append all v.given xs mine.1 part, (λ none. absurd (omega arith))) (λ j u apart e. h.8 j u e),
        ),
        (
          refl,
          λ o.
              let s = total_at given_length (set views port w) port w (set_here views port w (within views port v at)) in
              let a = length-append (h.2 ++ xs) items in
              let q : length (h.1) ≡ length ((h.2 ++ xs) ++ items) = ap length (h.3 ∙ sym (append_assoc h.2 xs items)) in
              let r : length v.pushed ≡ length h.1 = ap length (mine.0 o).1 in
              omega arith,
        ),
      )

  pub forks : (port : ℕ) (v : Known J) → 1 < v.parts → Forks Ruled port v (known (v.parts - 1) v.owns v.pushed v.given) (known 1 false [] [])
  forks port v many items views h at =
      let l : Known J = known (v.parts - 1) v.owns v.pushed v.given in
      let r : Known J = known 1 false [] [] in
      let mine = h.8 port v at in
      let old = all_set (Fits h.0 h.1) views port l (mine.0, mine.1, (λ none. absurd (omega arith))) (λ j u apart e. h.8 j u e) in (
        h.0,
        h.1,
        h.2,
        h.3,
        h.4,
        (let s = total-set parts_of views port v l at in let t = total-append parts_of (set views port l) (r ∷ []) in let p = h.5 in omega arith),
        (λ n. let s = total-set (given_times n) views port v l at in let t = total-append (given_times n) (set views port l) (r ∷ []) in let p = h.6 n in omega arith),
        (let s = total-set given_length views port v l at in let t = total-append given_length (set views port l) (r ∷ []) in let p = h.7 in omega arith),
        λ j u e. ⊎_elim (λ x. old j u x) (λ (is : r ≡ u). subst (Fits h.0 h.1 j) is ((λ o. absurd (true≢false (sym o))), (λ i t k. absurd cc), (λ _. refl))) (at_snoc (set views port l) r u j e),
      )

  pub merges : (port : ℕ) (v : Known J) (other : ℕ) (u : Known J) → 0 < v.parts → Merges Ruled port v other u (known (v.parts + u.parts) v.owns v.pushed (v.given ++ u.given)) (known 0 false [] [])
  merges port v other u some_part items views h at two at' =
      let w : Known J = known (v.parts + u.parts) v.owns v.pushed (v.given ++ u.given) in
      let spent : Known J = known 0 false [] [] in
      let mine = h.8 port v at in
      let was : get_elem? views other ≡ some u = ⊎_elim (λ x. absurd (two x.0)) (λ x. x.1) (at_set views port other w u at') in
      let theirs = h.8 other u was in
      let now : All (Fits h.0 h.1) (set views port w) = all_set (Fits h.0 h.1) views port w (mine.0, are_of-append h.1 v.given u.given mine.1 theirs.1, (λ none. absurd (omega arith))) (λ j y apart e. h.8 j y e) in (
        h.0,
        h.1,
        h.2,
        h.3,
        h.4,
        (let s = total-set parts_of views port v w at in let t = total-set parts_of (set views port w) other u spent at' in let p = h.5 in omega arith),
        (λ n. let s = total-set (given_times n) views port v w at in let t = total-set (given_times n) (set views port w) other u spent at' in let p = h.6 n in let a = times-append n v.given u.given in omega arith),
        (let s = total-set given_length views port v w at in let t = total-set given_length (set views port w) other u spent at' in let p = h.7 in let a = length-append v.given u.given in omega arith),
        all_set (Fits h.0 h.1) (set views port w) other spent ((λ o. absurd (true≢false (sym o))), (λ i t k. absurd cc), (λ _. refl)) (λ j y apart e. now j y e),
      )

  pub finds : (port : ℕ) (v : Known J) → Finds Ruled port v (AllOut v)
  finds port v views h at all_parts owns =
      let mine = h.8 port v at in
      let own = mine.0 owns in
      let whole : h.1 ≡ h.2 = h.3 ∙ append-nil h.2 in (
        subst (λ l. AreOf l v.given) (sym own.1) mine.1,
        λ x. sym (total_known (given_times x) views port v at (h.5 ∙ sym all_parts) (λ j u e none. ap (times x) ((h.8 j u e).2 none))) ∙ (h.6 x ∙ ap (times x) (sym (own.1 ∙ whole))),
      )

  pub learns : (port : ℕ) (v : Known J) → Learns Ruled port v (λ items. NoMore v)
  learns port v items views h at owns =
      let s = total_at given_length views port v at in
      let a = length-append h.2 items in
      let q : length h.1 ≡ length (h.2 ++ items) = ap length h.3 in
      let r : length v.pushed ≡ length h.1 = ap length ((h.8 port v at).0 owns).1 in
      let p = h.7 in
      omega arith

  -- where the owner was given one more, there was room for its result
  pub room : (v w : Known J) (t : Placed J) (done places : ℕ) → w ≡ known v.parts v.owns v.pushed (v.given ++ t ∷ []) → NoMore w → v.owns ≡ true → done ≡ length v.given → length v.pushed ≤ places → done < places
  room v w t done places is more owns len most =
      let a = more (ap (λ (y : Known J). y.owns) is ∙ owns) in
      let b : length w.given ≡ length (v.given ++ t ∷ []) = ap (λ (y : Known J). length y.given) is in
      let c : length w.pushed ≡ length v.pushed = ap (λ (y : Known J). length y.pushed) is in
      let d = length-append v.given (t ∷ []) in
      omega arith
