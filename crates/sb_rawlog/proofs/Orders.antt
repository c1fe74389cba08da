-- The places in use, from the newest to the oldest, and what they hold.
use Rattle.std.proofs.Common.{◌≡◌, ◌≢◌, ℕ, zero, suc, ◌+◌, ◌<◌, ◌≤◌, Bool, true, false, not, ◌==◌, cond, nat_lt, inl, inr, List, [], ◌∷◌, ◌++◌, reverse, length, get_or, Option, Some, None, refl, sym, ap, ◌∙◌, subst, arith, append-nil, eq-eqb, ne_eqb}
use Rattle.std.specs.List.{filter}
use Rattle.std.proofs.lemmas.List.{reverse-append}
use Rattle.std.proofs.lemmas.Bool.{lt-ltb, le-ltb}
use Rattle.sb_arena.specs.Places.{somes}
use Rattle.sb_rawlog.specs.declared.node.Which.{Which}
use Rattle.sb_rawlog.specs.declared.node.Node.{Node}
use Rattle.sb_rawlog.specs.Links.{link, time_in, time_at, item_in, item_at, IsNode, IsChain, Member, taken_out}
use Rattle.sb_rawlog.specs.Logs.{with_entry, entries, Falls, bucket_in, in_bucket, shown, of_time, contents}
use Rattle.sb_rawlog.proofs.Chains.{same_or_not}

module _ {X : Type 0} (cs : List (Option (Node X))) where
  pub falls_below : (top : ℕ) (ps : List ℕ) (q : ℕ) → Falls cs top ps → Member q ps → time_at cs q < top
  falls_below top [] q h m = absurd m
  falls_below top (p ∷ ps) q h m = elim m [
    | inl e ↦ subst (λ k. time_at cs k < top) (sym e) h.1
    | inr r ↦ let t = falls_below (time_at cs p) ps q h.2 r in omega (arith, h.1)
  ]

  pub falls_node : (top : ℕ) (ps : List ℕ) (q : ℕ) → Falls cs top ps → Member q ps → IsNode cs q
  falls_node top [] q h m = absurd m
  falls_node top (p ∷ ps) q h m = elim m [ inl e ↦ subst (IsNode cs) (sym e) h.0 | inr r ↦ falls_node (time_at cs p) ps q h.2 r ]

  -- no two places share a time
  pub one_time : (top : ℕ) (ps : List ℕ) (q r : ℕ) → Falls cs top ps → Member q ps → Member r ps → time_at cs q ≡ time_at cs r → q ≡ r
  one_time top [] q r h m n e = absurd m
  one_time top (p ∷ ps) q r h m n e = elim m [
    | inl a ↦ elim n [
      | inl b ↦ a ∙ sym b
      | inr b ↦ let t = falls_below (time_at cs p) ps r h.2 b in let u : time_at cs q ≡ time_at cs p = ap (time_at cs) a in absurd (omega arith)
    ]
    | inr a ↦ elim n [
      | inl b ↦ let t = falls_below (time_at cs p) ps q h.2 a in let u : time_at cs r ≡ time_at cs p = ap (time_at cs) b in absurd (omega arith)
      | inr b ↦ one_time (time_at cs p) ps q r h.2 a b e
    ]
  ]

  pub length-entries : (top : ℕ) (ps : List ℕ) → Falls cs top ps → length (entries cs ps) ≡ length ps
  length-entries top [] h = refl
  length-entries top (p ∷ ps) h = ap (λ c. length (with_entry c (entries cs ps))) h.0.1 ∙ ap suc (length-entries (time_at cs p) ps h.2)

-- ---- what the places hold, in rising time, is what the order says

module _ {X : Type 0} where
  none_of : (t : ℕ) (cs : List (Option (Node X))) → ((q : ℕ) → IsNode cs q → time_at cs q ≢ t) → of_time t (somes (shown cs)) ≡ []
  none_of t [] h = refl
  none_of t (None ∷ cs) h = none_of t cs (λ q is. h (suc q) is)
  none_of t (Some n ∷ cs) h = let e : (n.time == t) ≡ false = ne_eqb n.time t (h zero (n, refl)) in rw e (none_of t cs (λ q is. h (suc q) is))

  one_of : (t : ℕ) (cs : List (Option (Node X))) (p : ℕ) (n : Node X) → get_or cs p None ≡ Some n → n.time ≡ t → ((q : ℕ) → IsNode cs q → time_at cs q ≡ t → q ≡ p)
      → of_time t (somes (shown cs)) ≡ (n.time, n.item) ∷ []
  one_of t [] p n is e only = absurd (cc)
  one_of t (None ∷ cs) zero n is e only = absurd (cc)
  one_of t (Some m ∷ cs) zero n is e only =
      let same : m ≡ n = cc in let yes_it : (m.time == t) ≡ true = eq-eqb m.time t (ap (λ (k : Node X). k.time) same ∙ e) in
      rw yes_it (ap (λ l. (m.time, m.item) ∷ l) (none_of t cs (λ q is f. let g = only (suc q) is f in absurd (omega arith))) ∙ ap (λ (k : Node X). (k.time, k.item) ∷ []) same)
  one_of t (None ∷ cs) (suc p) n is e only = one_of t cs p n is e (λ q node f. let g = only (suc q) node f in omega arith)
  one_of t (Some m ∷ cs) (suc p) n is e only =
      let not_it : (m.time == t) ≡ false = ne_eqb m.time t (λ f. let g = only zero (m, refl) f in absurd (omega arith)) in
      rw not_it (one_of t cs p n is e (λ q node f. let g = only (suc q) node f in omega arith))

  abbrev pub AllBelow : List (Option (Node X)) → ℕ → List ℕ → Type 0
  AllBelow cs top order = (q : ℕ) → IsNode cs q → time_at cs q < top → Member q order

  pub in_order : (cs : List (Option (Node X))) (clock : ℕ) (order : List ℕ) → Falls cs clock order → AllBelow cs clock order → contents clock (shown cs) ≡ reverse (entries cs order)
  in_order cs zero [] h all = refl
  in_order cs zero (p ∷ ps) h all = let lt = h.1 in absurd (omega arith)
  in_order cs (suc t) [] h all =
      (λ j. in_order cs t [] h (λ q is lt. all q is (omega arith)) j ++ none_of t cs (λ q is e. all q is (omega arith)) j)
  in_order cs (suc t) (p ∷ ps) h all = elim (same_or_not (time_at cs p) t) [
    | inl e ↦
        let n : Node X = h.0.0 in let at : get_or cs p None ≡ Some n = h.0.1 in let when : n.time ≡ t = sym (ap time_in at) ∙ e in
        let rest : contents t (shown cs) ≡ reverse (entries cs ps) = in_order cs t ps (subst (λ k. Falls cs k ps) e h.2)
        (λ q is lt. elim (all q is (omega arith)) [ inl same ↦ let u : time_at cs q ≡ time_at cs p = ap (time_at cs) same in absurd (omega arith) | inr m ↦ m ]) in
        let one : of_time t (somes (shown cs)) ≡ (n.time, n.item) ∷ [] = one_of t cs p n at when
        (λ q is f. elim (all q is (omega arith)) [ inl same ↦ same | inr m ↦ let u = falls_below cs (time_at cs p) ps q h.2 m in absurd (omega arith) ]) in
        (λ j. rest j ++ one j) ∙ sym (reverse-append ((n.time, n.item) ∷ []) (entries cs ps)) ∙ ap (λ c. reverse (with_entry c (entries cs ps))) (sym at)
    | inr ne ↦
        let low : time_at cs p < t = let lt = h.1 in omega (arith, ne) in
        let rest : contents t (shown cs) ≡ reverse (entries cs (p ∷ ps)) = in_order cs t (p ∷ ps) (h.0, low, h.2) (λ q is lt. all q is (omega arith)) in
        let none : of_time t (somes (shown cs)) ≡ [] = none_of t cs
        (λ q is f. elim (all q is (omega arith)) [ inl same ↦ let u : time_at cs q ≡ time_at cs p = ap (time_at cs) same in absurd (omega arith) | inr m ↦ let u = falls_below cs (time_at cs p) ps q h.2 m in absurd (omega arith) ]) in
        (λ j. rest j ++ none j) ∙ append-nil (reverse (entries cs (p ∷ ps)))
  ]

  -- ---- a place that leaves

  with_same : (c d : Option (Node X)) (l : List (ℕ × X)) → item_in c ≡ item_in d → time_in c ≡ time_in d → with_entry c l ≡ with_entry d l
  with_same None None l i t = refl
  with_same None (Some n) l i t = absurd (cc)
  with_same (Some m) None l i t = absurd (cc)
  with_same (Some m) (Some n) l i t = let same : m.item ≡ n.item = cc in λ j. (t j, same j) ∷ l

  -- the entries are the others'
  pub entries_taken : (cs ds : List (Option (Node X))) (p top : ℕ) (ps all : List ℕ) (high : ℕ) → Falls cs high all → Member p all → ((q : ℕ) → Member q ps → Member q all)
      → ((q : ℕ) → q ≢ p → (item_at ds q ≡ item_at cs q) × (time_at ds q ≡ time_at cs q)) → Falls cs top ps → entries ds (taken_out p ps) ≡ filter (λ e. not (e.0 == time_at cs p)) (entries cs ps)
  entries_taken cs ds p top [] all high h there within same down = refl
  entries_taken cs ds p top (q ∷ qs) all high h there within same down =
      let n : Node X = down.0.0 in let at : get_or cs q None ≡ Some n = down.0.1 in let t : ℕ = time_at cs p in
      let rest : entries ds (taken_out p qs) ≡ filter (λ e. not (e.0 == t)) (entries cs qs) = entries_taken cs ds p (time_at cs q) qs all high h there (λ r m. within r (inr m)) same down.2 in
      let when : n.time ≡ time_at cs q = sym (ap time_in at) in
      let out : filter (λ e. not (e.0 == t)) (entries cs (q ∷ qs)) ≡ cond (not (n.time == t)) ((n.time, n.item) ∷ filter (λ e. not (e.0 == t)) (entries cs qs)) (filter (λ e. not (e.0 == t)) (entries cs qs)) =
      ap (λ c. filter (λ e. not (e.0 == t)) (with_entry c (entries cs qs))) at in
      elim (same_or_not q p) [
        | inl is ↦
            let a : (q == p) ≡ true = eq-eqb q p is in let b : (n.time == t) ≡ true = eq-eqb n.time t (when ∙ ap (time_at cs) is) in
            ap (λ b. entries ds (cond (not b) (q ∷ taken_out p qs) (taken_out p qs))) a ∙ rest ∙ sym (out ∙ ap (λ b. cond (not b) ((n.time, n.item) ∷ filter (λ e. not (e.0 == t)) (entries cs qs)) (filter (λ e. not (e.0 == t)) (entries cs qs))) b)
        | inr ne ↦
            let a : (q == p) ≡ false = ne_eqb q p ne in let b : (n.time == t) ≡ false = ne_eqb n.time t (λ e. ne (one_time cs high all q p h (within q (inl refl)) there (sym when ∙ e))) in
            let s = same q ne in
            ap (λ b. entries ds (cond (not b) (q ∷ taken_out p qs) (taken_out p qs))) a ∙ with_same (get_or ds q None) (get_or cs q None) (entries ds (taken_out p qs)) s.0 s.1
            ∙ ap (λ c. with_entry c (entries ds (taken_out p qs))) at ∙ ap (λ l. (n.time, n.item) ∷ l) rest
            ∙ sym (out ∙ ap (λ b. cond (not b) ((n.time, n.item) ∷ filter (λ e. not (e.0 == t)) (entries cs qs)) (filter (λ e. not (e.0 == t)) (entries cs qs))) b)
      ]

  pub length-taken : (cs : List (Option (Node X))) (p top : ℕ) (ps : List ℕ) → Falls cs top ps → Member p ps → length (taken_out p ps) + 1 ≡ length ps
  length-taken cs p top [] h m = absurd m
  length-taken cs p top (q ∷ qs) h m = elim (same_or_not q p) [
    | inl is ↦
        let out : taken_out p qs ≡ qs = not_there qs (λ n. let t = falls_below cs (time_at cs q) qs p h.2 n in let u : time_at cs q ≡ time_at cs p = ap (time_at cs) is in absurd (omega arith)) in
        rw (eq-eqb q p is) (let long = ap length out in omega arith)
    | inr ne ↦ elim m [ inl e ↦ absurd (ne (sym e)) | inr n ↦ rw (ne_eqb q p ne) (let rest = length-taken cs p (time_at cs q) qs h.2 n in omega arith) ]
  ]
    where
      not_there : (rs : List ℕ) → (Member p rs → ⊥) → taken_out p rs ≡ rs
      not_there [] no_one = refl
      not_there (r ∷ rs) no_one = rw (ne_eqb r p (λ e. no_one (inl (sym e)))) (ap (λ l. r ∷ l) (not_there rs (λ n. no_one (inr n))))

  -- ---- the places that are older than one

  abbrev pub older : List (Option (Node X)) → ℕ → List ℕ → List ℕ
  older cs t ps = filter (λ q. nat_lt (time_at cs q) t) ps

  pub entries_older : (cs : List (Option (Node X))) (t : ℕ) (ps : List ℕ) → entries cs (older cs t ps) ≡ filter (λ e. nat_lt e.0 t) (entries cs ps)
  entries_older cs t [] = refl
  entries_older cs t (p ∷ ps) = go (entries_older cs t ps) (get_or cs p None) refl
    where
      pick : entries cs (older cs t ps) ≡ filter (λ e. nat_lt e.0 t) (entries cs ps) → (c : Option (Node X)) (b : Bool) → get_or cs p None ≡ c → entries cs (cond b (p ∷ older cs t ps) (older cs t ps)) ≡ cond b (with_entry c (filter (λ e. nat_lt e.0 t) (entries cs ps))) (filter (λ e. nat_lt e.0 t) (entries cs ps))
      pick on c true e = (λ j. with_entry (e j) (on j))
      pick on c false e = on

      none : (b : Bool) → cond b (filter (λ e. nat_lt e.0 t) (entries cs ps)) (filter (λ e. nat_lt e.0 t) (entries cs ps)) ≡ filter (λ e. nat_lt e.0 t) (entries cs ps)
      none true = refl
      none false = refl

      go : entries cs (older cs t ps) ≡ filter (λ e. nat_lt e.0 t) (entries cs ps) → (c : Option (Node X)) → get_or cs p None ≡ c → entries cs (older cs t (p ∷ ps)) ≡ filter (λ e. nat_lt e.0 t) (entries cs (p ∷ ps))
      go on None e = pick on None (nat_lt (time_at cs p) t) e ∙ none (nat_lt (time_at cs p) t) ∙ ap (λ c. filter (λ e. nat_lt e.0 t) (with_entry c (entries cs ps))) (sym e)
      go on (Some n) e =
          pick on (Some n) (nat_lt (time_at cs p) t) e ∙ ap (λ c. cond (nat_lt (time_in c) t) ((n.time, n.item) ∷ filter (λ e. nat_lt e.0 t) (entries cs ps)) (filter (λ e. nat_lt e.0 t) (entries cs ps))) e
          ∙ ap (λ c. filter (λ e. nat_lt e.0 t) (with_entry c (entries cs ps))) (sym e)

  all_older : (cs : List (Option (Node X))) (t top : ℕ) (ps : List ℕ) → top ≤ t → Falls cs top ps → older cs t ps ≡ ps
  all_older cs t top [] le h = refl
  all_older cs t top (p ∷ ps) le h = let lt = h.1 in rw (lt-ltb (time_at cs p) t (omega arith)) (ap (λ l. p ∷ l) (all_older cs t (time_at cs p) ps (omega arith) h.2))

  -- behind a place of a bucket's chain lie the bucket's older places
  pub chain_behind : (bucket : Which → X → ℕ) (w : Which) (cs : List (Option (Node X))) (p high : ℕ) (ps : List ℕ) (top : ℕ) (at : Option ℕ) → Falls cs high ps → Member p ps
      → let b = bucket_in bucket w (item_at cs p) in IsChain w cs top at (in_bucket bucket w b cs ps) → IsChain w cs (time_at cs p) (link w cs p) (in_bucket bucket w b cs (older cs (time_at cs p) ps))
  chain_behind bucket w cs p high [] top at h m chain = absurd m
  chain_behind bucket w cs p high (q ∷ qs) top at h m chain =
      let test : ℕ → Bool = λ r. bucket_in bucket w (item_at cs r) == bucket_in bucket w (item_at cs p) in
      elim m [
        | inl is ↦
            let mine : test q ≡ true = eq-eqb _ _ (ap (λ r. bucket_in bucket w (item_at cs r)) (sym is)) in
            let out : older cs (time_at cs p) (q ∷ qs) ≡ qs = rw (le-ltb (time_at cs q) (time_at cs p) (let u : time_at cs p ≡ time_at cs q = ap (time_at cs) is in omega arith))
            (all_older cs (time_at cs p) (time_at cs q) qs (let u : time_at cs p ≡ time_at cs q = ap (time_at cs) is in omega arith) h.2) in
            let here : IsChain w cs top at (q ∷ filter test qs) = subst (λ b. IsChain w cs top at (cond b (q ∷ filter test qs) (filter test qs))) mine chain in
            subst (λ (k : ℕ × List ℕ). IsChain w cs (time_at cs k.0) (link w cs k.0) (filter test k.1)) (λ j. (sym is j, sym out j)) here.3
        | inr n ↦
            let lt = falls_below cs (time_at cs q) qs p h.2 n in
            let out : older cs (time_at cs p) (q ∷ qs) ≡ older cs (time_at cs p) qs = rw (le-ltb (time_at cs q) (time_at cs p) (omega arith)) refl in
            let go : (b : Bool) → IsChain w cs top at (cond b (q ∷ filter test qs) (filter test qs)) → IsChain w cs (time_at cs p) (link w cs p) (filter test (older cs (time_at cs p) qs)) = elim [
              | true ↦ λ chain. chain_behind bucket w cs p (time_at cs q) qs (time_at cs q) (link w cs q) h.2 n chain.3
              | false ↦ λ chain. chain_behind bucket w cs p (time_at cs q) qs top at h.2 n chain
            ] in
            subst (λ l. IsChain w cs (time_at cs p) (link w cs p) (filter test l)) (sym out) (go (test q) chain)
      ]
