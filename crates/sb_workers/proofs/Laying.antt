-- Results laid in the slots of their places, and read from there.
use Rattle.std.proofs.Common.{◌≡◌, ◌⊎◌, ℕ, zero, suc, ◌+◌, ◌<◌, ◌≤◌, ◌==◌, Bool, true, false, cond, List, [], ◌∷◌, ◌++◌, map, length, set, Some, None, Option, refl, sym, ap, ◌∙◌, subst, ⊎_elim, inl, inr, arith, length-append, append_assoc}
use Rattle.std.specs.Prelude.{slice_get}
use Rattle.std.specs.List.{AllZip}
use Rattle.std.proofs.lemmas.Bool.{cases_eq}
use Rattle.std.proofs.lemmas.Bool.Decides.{nat_tests}
use Rattle.std.proofs.lemmas.List.{length-map, map-append}
use Rattle.std.proofs.lemmas.Option.{same_Some, none-some, slice_get_within}
use Rattle.sb_workers.specs.declared.work.Placed.{Placed}
use Rattle.sb_workers.specs.Rule.{tasks_from, times}
use Rattle.sb_workers.specs.Results.{AllDone, AreDone, AreEmpty, AreFull, CoverPlaces, HasResult, HoldByPlace, IsDone, ListsByPlace}
use Rattle.sb_workers.proofs.Zips.{zip_at, zips}
use Rattle.sb_workers.proofs.Tasks.{get_behind, tasks_at}

-- ---- how often a place stands

same_place : (x y : ℕ) → x ≡ y → (x == y) ≡ true
same_place x y e = grind (arith, nat_tests)

other_place : (x y : ℕ) → (x ≡ y → ⊥) → (x == y) ≡ false
other_place x y e = grind (arith, nat_tests)

module _ {T : Type 0} where
  times-here : (x : ℕ) (t : Placed T) (ts : List (Placed T)) → t.place ≡ x → times x (t ∷ ts) ≡ 1 + times x ts
  times-here x t ts e = ap (λ (b : Bool). cond b 1 0 + times x ts) (same_place t.place x e)

  times-else : (x : ℕ) (t : Placed T) (ts : List (Placed T)) → (t.place ≡ x → ⊥) → times x (t ∷ ts) ≡ times x ts
  times-else x t ts e = ap (λ (b : Bool). cond b 1 0 + times x ts) (other_place t.place x e) ∙ omega arith

  -- a place that an element has stands there
  times_at : (ts : List (Placed T)) (i : ℕ) (t : Placed T) → slice_get ts i ≡ Some t → 0 < times t.place ts
  times_at [] i t e = absurd cc
  times_at (u ∷ us) zero t e =
      let same : u ≡ t = same_Some u t e in
      let here = times-here t.place u us (ap (λ (p : Placed T). p.place) same) in
      omega (arith, here)
  times_at (u ∷ us) (suc i) t e = let r = times_at us i t e in omega arith

  -- the places of a list of tasks are those from k on
  tasks_within : (k : ℕ) (js : List T) (x : ℕ) → 0 < times x (tasks_from k js) → x < k + length js
  tasks_within k [] x h = absurd (omega arith)
  tasks_within k (j ∷ js) x h = by (cases_eq k x) (λ more. tasks_within (suc k) js x more)
    where
      by : (k ≡ x) ⊎ (k ≡ x → ⊥) → (0 < times x (tasks_from (suc k) js) → x < suc k + length js) → x < k + length (j ∷ js)
      by (inl e) r = omega (arith, e)
      by (inr e) r =
          let less : times x (tasks_from k (j ∷ js)) ≡ times x (tasks_from (suc k) js) = times-else x (record { place = k; item = j }) (tasks_from (suc k) js) e in
          let q = r (omega (arith, h, less)) in
          omega (arith, q)

  tasks_have : (k : ℕ) (js : List T) (x : ℕ) → k ≤ x → x < k + length js → 0 < times x (tasks_from k js)
  tasks_have k [] x low high = absurd (omega (arith, low, high))
  tasks_have k (j ∷ js) x low high = by (cases_eq k x) (λ above. tasks_have (suc k) js x above (omega (arith, high)))
    where
      by : (k ≡ x) ⊎ (k ≡ x → ⊥) → (suc k ≤ x → 0 < times x (tasks_from (suc k) js)) → 0 < times x (tasks_from k (j ∷ js))
      by (inl e) r = let here = times-here x (record { place = k; item = j }) (tasks_from (suc k) js) e in omega (arith, here)
      by (inr e) r = let q = r (omega (arith, low, e)) in omega (arith, q)

-- a result stands where its task stands
times-done : {J D : Type 0} (does : J → D → Type 0) (x : ℕ) (given : List (Placed J)) (done : List (Placed D)) → AreDone does given done → times x done ≡ times x given
times-done does x [] [] h = refl
times-done does x [] (r ∷ rs) h = absurd h
times-done does x (t ∷ ts) [] h = absurd h
times-done does x (t ∷ ts) (r ∷ rs) h = λ i. cond (h.0.0 i == x) 1 0 + times-done does x ts rs h.1 i

module _ {J D : Type 0} (does : J → D → Type 0) (jobs : List J) (pushed : List (Placed J)) (done : List (Placed D)) (n : ℕ) (are : pushed ≡ tasks_from 0 jobs) (many : n ≡ length jobs) (all : AllDone does pushed done) where
  -- results of all jobs have all places
  pub covers : CoverPlaces n done
  covers x =
      let e = times-done does x all.0 done all.3 ∙ (all.2 x ∙ ap (times x) are) in (
        (λ below. let have = tasks_have 0 jobs x (omega arith) (omega (arith, below, many)) in omega (arith, e, have)),
        (λ there. let less = tasks_within 0 jobs x (omega (arith, e, there)) in omega (arith, less, many)),
      )

  -- and laid back by place they are the results of the jobs, one by one
  pub answers : (results : List D) → length results ≡ n → ListsByPlace done results → AllZip does jobs results
  answers results len lists = zips does jobs results (len ∙ many) each
    where
      each : (i : ℕ) (j : J) (r : D) → slice_get jobs i ≡ Some j → slice_get results i ≡ Some r → does j r
      each i j r at there =
          let placed = lists i r there in
          let task = zip_at (IsDone does) all.0 done placed.0 (record { place = i; item = r }) all.3 placed.1 in
          let job : slice_get (tasks_from 0 jobs) task.0.place ≡ Some task.0 = ap (λ l. slice_get l task.0.place) (sym are) ∙ all.1 placed.0 task.0 task.1 in
          let place : i ≡ task.0.place = task.2.0 in
          let here : slice_get jobs i ≡ Some task.0.item = ap (slice_get jobs) place ∙ tasks_at 0 jobs task.0.place task.0 job in
          subst (λ (x : J). does x r) (same_Some task.0.item j (sym here ∙ at)) task.2.1

-- ---- slots

module _ {A : Type 0} where
  get-set : (xs : List A) (n : ℕ) (a : A) (x : ℕ) (y : A) → slice_get (set xs n a) x ≡ Some y → ((n ≡ x) × (a ≡ y)) ⊎ ((n ≡ x → ⊥) × (slice_get xs x ≡ Some y))
  get-set [] n a x y e = absurd cc
  get-set (b ∷ xs) zero a zero y e = inl (refl, same_Some a y e)
  get-set (b ∷ xs) zero a (suc x) y e = inr ((λ q. omega (arith, q)), e)
  get-set (b ∷ xs) (suc n) a zero y e = inr ((λ q. omega (arith, q)), e)
  get-set (b ∷ xs) (suc n) a (suc x) y e = ⊎_elim (λ h. inl (ap suc h.0, h.1)) (λ h. inr ((λ q. h.0 (omega (arith, q))), h.1)) (get-set xs n a x y e)

module _ {D : Type 0} where
  -- Some results are left to lay: they are among all; a slot holds a result of its place; an empty slot's place is left as often as it stands
  pub record Laying (all left : List (Placed D)) (slots : List (Option D)) : Type 0 where
    pub among : (i : ℕ) (t : Placed D) → slice_get left i ≡ Some t → (k : ℕ) × (slice_get all k ≡ Some t)
    pub held : (x : ℕ) (r : D) → slice_get slots x ≡ Some (Some r) → HasResult all x r
    pub empty : (x : ℕ) → slice_get slots x ≡ Some None → times x left ≡ times x all

  pub laying_begins : (all : List (Placed D)) (slots : List (Option D)) → AreEmpty slots → Laying all all slots
  laying_begins all slots none = record { among = λ i t e. (i, e); held = λ x r e. absurd (none x r e); empty = λ x e. refl }

  laid : (all left : List (Placed D)) (t : Placed D) (slots : List (Option D)) → Laying all (t ∷ left) slots → Laying all left (set slots t.place (Some t.item))
  laid all left t slots h = record {
    among = λ i u e. h.among (suc i) u e;
    held = λ x r e. ⊎_elim (λ (s : (t.place ≡ x) × (Some t.item ≡ Some r)). first x r s.0 (same_Some t.item r s.1)) (λ s. h.held x r s.1) (get-set slots t.place (Some t.item) x (Some r) e);
    empty = λ x e. ⊎_elim (λ (s : (t.place ≡ x) × (Some t.item ≡ None)). absurd (none-some t.item (sym s.1))) (λ s. sym (times-else x t left s.0) ∙ h.empty x s.1) (get-set slots t.place (Some t.item) x None e);
  }
    where
      first : (x : ℕ) (r : D) → t.place ≡ x → t.item ≡ r → HasResult all x r
      first x r p q = let k = h.among 0 t refl in (k.0, k.1 ∙ (λ i. Some (record { place = p i; item = q i })))

  pub laying_goes_on : (all now left : List (Placed D)) (t : Placed D) (slots new : List (Option D)) → now ≡ t ∷ left → new ≡ set slots t.place (Some t.item) → Laying all now slots → Laying all left new
  laying_goes_on all now left t slots new split is h = subst (Laying all left) (sym is) (laid all left t slots (subst (λ l. Laying all l slots) split h))

  -- the next result has a slot
  pub laying_within : (n : ℕ) (all now left : List (Placed D)) (t : Placed D) (slots : List (Option D)) → now ≡ t ∷ left → Laying all now slots → CoverPlaces n all → t.place < n
  laying_within n all now left t slots split h covered = let k = h.among 0 t (ap (λ l. slice_get l 0) split) in (covered t.place).1 (times_at all k.0 t k.1)

  none_left : (all left : List (Placed D)) (slots : List (Option D)) → length left ≡ 0 → Laying all left slots → Laying all [] slots
  none_left all [] slots e h = h
  none_left all (t ∷ left) slots e h = absurd (omega (arith, e))

  ends : (n : ℕ) (all : List (Placed D)) (slots : List (Option D)) → Laying all [] slots → CoverPlaces n all → length slots ≡ n → HoldByPlace all slots
  ends n all slots h covered len x None e =
      let within = slice_get_within slots x None e in
      let some = (covered x).0 (omega (arith, within, len)) in
      let none : 0 ≡ times x all = h.empty x e in
      absurd (omega (arith, some, none))
  ends n all slots h covered len x (Some r) e = (r, refl, h.held x r e)

  pub laying_ends : (n : ℕ) (all left : List (Placed D)) (slots : List (Option D)) → length left ≡ 0 → Laying all left slots → CoverPlaces n all → length slots ≡ n → HoldByPlace all slots
  laying_ends n all left slots none h = ends n all slots (none_left all left slots none h)

  -- ---- slots that are read

  pub slots_full : (done : List (Placed D)) (slots : List (Option D)) → HoldByPlace done slots → AreFull slots
  slots_full done slots held x s e = let there = held x s e in (there.0, there.1)

  -- none is empty
  pub no_gap : (results : List D) (left slots : List (Option D)) → map Some results ++ None ∷ left ≡ slots → AreFull slots → ⊥
  no_gap results left slots is full =
      let here = full (length (map Some results) + 0) None (subst (λ l. slice_get l (length (map Some results) + 0) ≡ Some None) is (get_behind (map Some results) (None ∷ left) 0 None refl)) in
      none-some here.0 here.1

  pub one_more : (results : List D) (r : D) (left slots : List (Option D)) → map Some results ++ Some r ∷ left ≡ slots → map Some (results ++ r ∷ []) ++ left ≡ slots
  one_more results r left slots is = ap (λ l. l ++ left) (map-append Some results (r ∷ [])) ∙ (append_assoc (map Some results) (Some r ∷ []) left ∙ is)

  pub has_room : (results : List D) (r : D) (left slots : List (Option D)) (places : ℕ) → map Some results ++ Some r ∷ left ≡ slots → length slots ≤ places → length results < places
  has_room results r left slots places is most =
      let a = ap length is in
      let b = length-append (map Some results) (Some r ∷ left) in
      let c : length (map Some results) ≡ length results = length-map results Some in
      omega (arith, a, b, c, most)

  pub in_place : (done : List (Placed D)) (slots : List (Option D)) (results : List D) → map Some results ≡ slots → HoldByPlace done slots → ListsByPlace done results
  in_place done slots results is held x r e =
      let there = held x (Some r) (ap (λ l. slice_get l x) (sym is) ∙ get results x r e) in
      subst (HasResult done x) (sym (same_Some r there.0 there.1)) there.2
    where
      get : (rs : List D) (i : ℕ) (y : D) → slice_get rs i ≡ Some y → slice_get (map Some rs) i ≡ Some (Some y)
      get [] i y e = absurd cc
      get (z ∷ rs) zero y e = ap Some e
      get (z ∷ rs) (suc i) y e = get rs i y e
