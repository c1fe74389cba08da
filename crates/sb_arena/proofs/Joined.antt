-- Blocks of one length, end to end.
use Rattle.std.specs.List.{All, flat_map}
use Rattle.std.proofs.lemmas.List.{length-replicate, get_or_append_left, get_or-append_right, set-append_left, set-append_right}
use Rattle.std.proofs.lemmas.List.Elements.{All-append, All-get_or, All-set}
use Rattle.std.proofs.lemmas.List.Concat.{flat_map-append}
use Rattle.std.proofs.Math.Seq.{get_or-append_seam, take-append_seam}
use Rattle.std.proofs.lemmas.Nat.{div_below, div-add-mod', mod_below}
use Rattle.std.proofs.Common.{◌≡◌, ℕ, zero, suc, ◌+◌, ◌-◌, ◌*◌, ◌/◌, ◌%◌, ◌<◌, List, [], ◌∷◌, ◌++◌, length, get_or, set, take, replicate, Option, None, sym, ap, ◌∙◌, subst, arith, append-nil, zero-mul, suc-mul, length-append, length-set}

module _ {X : Type 0} where
  abbrev pub joined : List (List X) → List X
  joined bs = flat_map (λ b. b) bs

  abbrev pub AreWhole : ℕ → List (List X) → Type 0
  AreWhole n bs = All (λ b. length b ≡ n) bs

  module _ (n : ℕ) where
    first : (b : List X) (bs : List (List X)) → AreWhole n (b ∷ bs) → length b ≡ n
    first b bs w = w zero b (omega arith)

    rest : (b : List X) (bs : List (List X)) → AreWhole n (b ∷ bs) → AreWhole n bs
    rest b bs w = λ k d lt. w (suc k) d (omega (arith, lt))

    only : (b : List X) → length b ≡ n → AreWhole n (b ∷ [])
    only b e zero d lt = e
    only b e (suc k) d lt = absurd (omega (arith, lt))

    pub length_joined : (bs : List (List X)) → AreWhole n bs → length (joined bs) ≡ length bs * n
    length_joined [] w = sym (zero-mul n)
    length_joined (b ∷ bs) w = omega (arith, length-append b (joined bs), first b bs w, length_joined bs (rest b bs w), suc-mul (length bs) n)

    whole_at : (bs : List (List X)) (i : ℕ) (e : List X) → AreWhole n bs → i < length bs → length (get_or bs i e) ≡ n
    whole_at bs i e w lt = All-get_or (λ b. length b ≡ n) bs i e lt w

    read_at : (bs : List (List X)) (i j : ℕ) (e : List X) (d : X) → AreWhole n bs → i < length bs → j < n → get_or (get_or bs i e) j d ≡ get_or (joined bs) (i * n + j) d
    read_at [] i j e d w lt low = absurd (omega arith)
    read_at (b ∷ bs) zero j e d w lt low =
        let at : j ≡ zero * n + j = omega (arith, zero-mul n) in
        sym (get_or_append_left b (joined bs) d j (omega (arith, first b bs w))) ∙ ap (λ k. get_or (b ++ joined bs) k d) at
    read_at (b ∷ bs) (suc i) j e d w lt low =
        let past : (suc i * n + j) - n ≡ i * n + j = omega (arith, suc-mul i n) in
        read_at bs i j e d (rest b bs w) (omega arith) low ∙ ap (λ k. get_or (joined bs) k d) (sym past) ∙ sym (get_or-append_right b (joined bs) n (suc i * n + j) d (first b bs w) (omega (arith, suc-mul i n)))

    write_at : (bs : List (List X)) (i j : ℕ) (e : List X) (v : X) → AreWhole n bs → i < length bs → j < n → joined (set bs i (set (get_or bs i e) j v)) ≡ set (joined bs) (i * n + j) v
    write_at [] i j e v w lt low = absurd (omega arith)
    write_at (b ∷ bs) zero j e v w lt low =
        let at : j ≡ zero * n + j = omega (arith, zero-mul n) in
        sym (set-append_left b (joined bs) j v (omega (arith, first b bs w))) ∙ ap (λ k. set (b ++ joined bs) k v) at
    write_at (b ∷ bs) (suc i) j e v w lt low =
        let past : (suc i * n + j) - n ≡ i * n + j = omega (arith, suc-mul i n) in
        ap (λ l. b ++ l) (write_at bs i j e v (rest b bs w) (omega arith) low ∙ ap (λ k. set (joined bs) k v) (sym past)) ∙ sym (set-append_right b (joined bs) n (suc i * n + j) v (first b bs w) (omega (arith, suc-mul i n)))

  -- the place p, in the block that holds it
  module _ (n : ℕ) (some : 0 < n) (bs : List (List X)) (w : AreWhole n bs) (p : ℕ) (within : p < length (joined bs)) where
    pub block_in : p / n < length bs
    block_in = div_below p n (length bs) some (omega (arith, length_joined n bs w))

    module _ (b : List X) (is : b ≡ get_or bs (p / n) b) where
      pub place_in : p % n < length b
      place_in = omega (arith, mod_below p n some, ap length is, whole_at n bs (p / n) b w block_in)

      pub read : (d : X) → get_or b (p % n) d ≡ get_or (joined bs) p d
      read d = ap (λ l. get_or l (p % n) d) is ∙ read_at n bs (p / n) (p % n) b d w block_in (mod_below p n some) ∙ ap (λ k. get_or (joined bs) k d) (div-add-mod' p n)

      module _ (new : List X) (v : X) (wrote : new ≡ set b (p % n) v) where
        pub written : joined (set bs (p / n) new) ≡ set (joined bs) p v
        written =
            ap (λ l. joined (set bs (p / n) l)) (wrote ∙ ap (λ l. set l (p % n) v) is) ∙ write_at n bs (p / n) (p % n) b v w block_in (mod_below p n some)
            ∙ ap (λ k. set (joined bs) k v) (div-add-mod' p n)

        pub kept : AreWhole n (set bs (p / n) new)
        kept = All-set (λ b. length b ≡ n) bs (p / n) new (ap length wrote ∙ length-set b (p % n) v ∙ ap length is ∙ whole_at n bs (p / n) b w block_in) w

  pub joined_more : (bs cs : List (List X)) (b : List X) → cs ≡ bs ++ b ∷ [] → joined cs ≡ joined bs ++ b
  joined_more bs cs b e = ap joined e ∙ flat_map-append (λ b. b) bs (b ∷ []) ∙ ap (λ l. joined bs ++ l) (append-nil b)

  -- a block comes last
  module _ (n : ℕ) (bs cs : List (List X)) (b : List X) (is : cs ≡ bs ++ b ∷ []) where
    long : length cs ≡ length bs + 1
    long = ap length is ∙ length-append bs (b ∷ [])

    pub more : length cs * n ≡ length bs * n + n
    more = ap (λ k. k * n) long ∙ omega (arith, suc-mul (length bs) n)

    pub whole_more : AreWhole n bs → length b ≡ n → AreWhole n cs
    whole_more w e = subst (AreWhole n) (sym is) (All-append (λ b. length b ≡ n) bs (b ∷ []) w (only n b e))

    pub whole_less : AreWhole n cs → AreWhole n bs × (length b ≡ n)
    whole_less w =
        let all : AreWhole n (bs ++ b ∷ []) = subst (AreWhole n) is w in
        let count = length-append bs (b ∷ []) in (
          λ k d lt. sym (ap length (get_or_append_left bs (b ∷ []) d k lt)) ∙ all k d (omega (arith, lt, count)),
          sym (ap length (get_or-append_seam bs b [] b)) ∙ all (length bs) b (omega (arith, count)),
        )

    pub cut : AreWhole n cs → joined bs ≡ take (length (joined cs) - n) (joined cs)
    cut w =
        let all = joined_more bs cs b is in
        let front : length (joined cs) - n ≡ length (joined bs) = omega (arith, ap length all, length-append (joined bs) b, (whole_less w).1) in
        sym (ap (λ k. take k (joined cs)) front ∙ ap (take (length (joined bs))) all ∙ take-append_seam (joined bs) b)

-- a new block
pub free_block : {X : Type 0} (n : ℕ) (b : List (Option X)) → b ≡ replicate n None → length b ≡ n
free_block {X} n b e = let v : Option X = None in ap length e ∙ length-replicate n v
