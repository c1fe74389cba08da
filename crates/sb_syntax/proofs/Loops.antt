-- Repetition: the function against the grammar's.
use Rattle.std.proofs.Common.{◌≡◌, ◌≤◌, ◌+◌, ℕ, zero, suc, Bool, true, false, cond, List, [], ◌∷◌, ◌++◌, length, Option, Some, None, ap, sym, ◌∙◌, refl, subst, arith, append_assoc, append-nil, length-append}
use Rattle.std.proofs.lemmas.Option.{same_Some}
use Rattle.sb_syntax.specs.declared.kind.TokenKind.{TokenKind}
use Rattle.sb_syntax.specs.Input.{Input, Is, same_kind}
use Rattle.sb_syntax.specs.Grammar.{More, no_more, one_more, Separated, items}
use Rattle.sb_syntax.specs.Reading.{Reader, Joins, chain, chained, turn, kind_at, next, and_then, pushes, separated, separated_to}
use Rattle.sb_syntax.specs.Turns.{GoesOn}
use Rattle.sb_syntax.proofs.Turns.{goes_on-next, goes_on-end, chain-end, chain-step}
use Rattle.sb_syntax.proofs.TokenLaws.{Reads, two_steps, kind-is, is-kind, is-next, is-shorter, same_kind-true, same_kind-refl}

pub same_read : {A : Type 0} (P : A → Input → Type 0) (x y : A) (ts rest : Input) → ◌≡◌ {A = Option (A × Input)} (Some (x, ts)) (Some (y, rest)) → P x ts → P y rest
same_read {A = A} P x y ts rest e p = let q = same_Some {A = A × Input} (x, ts) (y, rest) e in subst (λ (z : A × Input). P z.0 z.1) q p

-- ---- what the function reads, the grammar has

module _ {A B : Type 0} (joins : Joins B A) (item : Reader A) (P : B → Input → Type 0) where
  Step : Type 0
  Step = (acc : B) (ts rest : Input) (join : B → A → B) (x : A) → P acc ts → joins (kind_at ts) ≡ Some join → item (next ts) ≡ Some (x, rest) → P (join acc x) rest

  turn-sound : Step → (more : B → Reader B) (acc y : B) (ts rest : Input) (j : Option (B → A → B)) → joins (kind_at ts) ≡ j → P acc ts → ((b : B) (mid : Input) → P b mid → more b mid ≡ Some (y, rest) → P y rest)
      → turn j item more acc ts ≡ Some (y, rest) → P y rest
  unfolding Step
  turn-sound step more acc y ts rest None is p rec e = same_read P acc y ts rest e p
  turn-sound step more acc y ts rest (Some join) is p rec e =
      let s = two_steps (item (next ts)) (λ x. more (join acc x)) (y, rest) e in
      rec (join acc s.0) s.1 (step acc ts s.1 join s.0 p is s.2) s.3

  chain-steps : Step → (n : ℕ) (acc y : B) (ts rest : Input) → P acc ts → chain joins item n acc ts ≡ Some (y, rest) → P y rest
  unfolding chain
  chain-steps step zero acc y ts rest p e = same_read P acc y ts rest e p
  chain-steps step (suc n) acc y ts rest p e =
      turn-sound step (chain joins item n) acc y ts rest (joins (kind_at ts)) refl p (λ b mid q f. chain-steps step n b y mid rest q f) e

  pub chain-sound : ((acc : B) (ts rest : Input) (join : B → A → B) (x : A) → P acc ts → joins (kind_at ts) ≡ Some join → item (next ts) ≡ Some (x, rest) → P (join acc x) rest)
      → (n : ℕ) (acc y : B) (ts rest : Input) → P acc ts → chain joins item n acc ts ≡ Some (y, rest) → P y rest
  unfolding Step
  chain-sound step = chain-steps step

pub chained-sound : {A : Type 0} (joins : Joins A A) (item : Reader A) (P : A → Input → Type 0) (ts : Input) → ((x : A) (rest : Input) → item ts ≡ Some (x, rest) → P x rest)
    → ((acc : A) (ts rest : Input) (join : A → A → A) (x : A) → P acc ts → joins (kind_at ts) ≡ Some join → item (next ts) ≡ Some (x, rest) → P (join acc x) rest)
    → (y : A) (rest : Input) → chained joins item ts ≡ Some (y, rest) → P y rest
chained-sound joins item P ts first step y rest e =
    let s = two_steps (item ts) (λ x mid. chain joins item (length mid) x mid) (y, rest) e in
    chain-sound joins item P step (length s.1) s.0 y s.1 rest (first s.0 s.1 s.2) s.3

-- ---- what the grammar has, the function reads

pub chained-start : {A : Type 0} (joins : Joins A A) (item : Reader A) (x : A) (ts a : Input) → Reads item x ts a → GoesOn joins item (chained joins item ts) (length ts) x a
chained-start joins item x ts a r = record {
  turns = length a;
  enough = omega arith;
  same = ap (λ o. and_then o (λ y mid. chain joins item (length mid) y mid)) r.0;
  shorter = r.1;
}

-- one operator and its right side
pub goes_on-token : {A B : Type 0} (joins : Joins B A) (item : Reader A) (whole : Option (B × Input)) (limit : ℕ) (acc : B) (ts a rest : Input) (kind : TokenKind) (join : B → A → B) (x : A) → joins None ≡ None → joins (Some kind) ≡ Some join
    → GoesOn joins item whole limit acc ts → Is kind ts a → Reads item x a rest → GoesOn joins item whole limit (join acc x) rest
goes_on-token joins item whole limit acc ts a rest kind join x none some g is r =
    goes_on-next joins item whole limit acc (join acc x) ts a rest (Some kind) join x none g (sym (is-kind kind ts a is)) some (sym (is-next kind ts a is)) r refl

-- ---- lists with separators

join-of : {A : Type 0} (sep kind : TokenKind) (join : List A → A → List A) → pushes sep (Some kind) ≡ Some join → (kind ≡ sep) × (join ≡ (λ xs x. xs ++ x ∷ []))
join-of {A = A} sep kind join e = go (same_kind kind sep) refl e
  where
    go : (b : Bool) → same_kind kind sep ≡ b → cond b (Some (λ (xs : List A) (x : A). xs ++ x ∷ [])) None ≡ Some join → (kind ≡ sep) × (join ≡ (λ xs x. xs ++ x ∷ []))
    go true is e = (same_kind-true kind sep is, sym (same_Some _ _ e))
    go false is e = absurd (cc)

pub pushes-is : {A : Type 0} (sep : TokenKind) (ts : Input) (join : List A → A → List A) (k : Option TokenKind) → kind_at ts ≡ k → pushes sep k ≡ Some join → Is sep ts (next ts) × (join ≡ (λ xs x. xs ++ x ∷ []))
pushes-is sep ts join None is e = absurd (cc)
pushes-is sep ts join (Some kind) is e =
    let j = join-of sep kind join e in
    (kind-is sep ts (is ∙ ap Some j.0), j.1)

pub pushes-one : {A : Type 0} (sep : TokenKind) → pushes {A = A} sep (Some sep) ≡ Some (λ xs x. xs ++ x ∷ [])
pushes-one {A = A} sep = ap (λ b. cond b (Some (λ (xs : List A) (x : A). xs ++ x ∷ [])) None) (same_kind-refl sep)

module _ {A : Type 0} (sep : TokenKind) (Item : A → Input → Input → Type 0) where
  more-snoc : (xs : List A) (y : A) (ts a b c : Input) → More sep Item xs ts a → Is sep a b → Item y b c → More sep Item (xs ++ y ∷ []) ts c
  more-snoc xs y ts a b c no_more is i = one_more is i no_more
  more-snoc xs y ts a b c (one_more d e m) is i = one_more d e (more-snoc _ y _ a b c m is i)

  pub separated-snoc : (xs : List A) (y : A) (ts a b c : Input) → Separated sep Item xs ts a → Is sep a b → Item y b c → Separated sep Item (xs ++ y ∷ []) ts c
  separated-snoc xs y ts a b c (items d m) is i = items d (more-snoc _ y _ a b c m is i)

  pub separated-sound : (item : Reader A) → ((x : A) (ts rest : Input) → item ts ≡ Some (x, rest) → Item x ts rest) → (xs : List A) (ts rest : Input) → separated sep item ts ≡ Some (xs, rest) → Separated sep Item xs ts rest
  unfolding separated
  separated-sound item sound xs ts rest e =
      let s = two_steps (item ts) (λ x mid. chain (pushes sep) item (length mid) (x ∷ []) mid) (xs, rest) e in
      chain-sound (pushes sep) item (λ ys mid. Separated sep Item ys ts mid)
      (λ acc mid after join x d is read.
      let p = pushes-is sep mid join (kind_at mid) refl is in
      subst (λ (f : List A → A → List A). Separated sep Item (f acc x) ts after) (sym p.1) (separated-snoc acc x ts mid (next mid) after d p.0 (sound x (next mid) after read)))
      (length s.1) (s.0 ∷ []) xs s.1 rest (items (sound s.0 ts s.1 s.2) no_more) s.3

  turn-length : (item : Reader A) (more : List A → Reader (List A)) (n : ℕ) (acc ys : List A) (ts rest : Input) (j : Option (List A → A → List A)) → pushes sep (kind_at ts) ≡ j
      → ((b : List A) (mid : Input) → more b mid ≡ Some (ys, rest) → length ys ≤ length b + n) → turn j item more acc ts ≡ Some (ys, rest) → length ys ≤ length acc + suc n
  turn-length item more n acc ys ts rest None is rec e = same_read (λ zs _. length zs ≤ length acc + suc n) acc ys ts rest e (omega arith)
  turn-length item more n acc ys ts rest (Some join) is rec e =
      let s = two_steps (item (next ts)) (λ x. more (join acc x)) (ys, rest) e in
      let p = pushes-is sep ts join (kind_at ts) refl is in
      let l = rec (join acc s.0) s.1 s.3 in
      let m : length (join acc s.0) ≡ length (acc ++ s.0 ∷ []) = ap (λ (f : List A → A → List A). length (f acc s.0)) p.1 in
      omega (arith, l, m, length-append acc (s.0 ∷ []))

  chain-length : (item : Reader A) (n : ℕ) (acc ys : List A) (ts rest : Input) → chain (pushes sep) item n acc ts ≡ Some (ys, rest) → length ys ≤ length acc + n
  unfolding chain
  chain-length item zero acc ys ts rest e = same_read (λ zs _. length zs ≤ length acc + 0) acc ys ts rest e (omega arith)
  chain-length item (suc n) acc ys ts rest e = turn-length item (chain (pushes sep) item n) n acc ys ts rest (pushes sep (kind_at ts)) refl (λ b mid f. chain-length item n b ys mid rest f) e

  pub separated_to-sound : (n : ℕ) (item : Reader A) → ((x : A) (ts rest : Input) → item ts ≡ Some (x, rest) → Item x ts rest) → (xs : List A) (ts rest : Input) → separated_to n sep item ts ≡ Some (xs, rest) → Separated sep Item xs ts rest × (length xs ≤ suc n)
  unfolding separated_to
  separated_to-sound n item sound xs ts rest e =
      let s = two_steps (item ts) (λ x. chain (pushes sep) item n (x ∷ [])) (xs, rest) e in
      let l = chain-length item n (s.0 ∷ []) xs s.1 rest s.3 in (
        chain-sound (pushes sep) item (λ ys mid. Separated sep Item ys ts mid)
            (λ acc mid after join x d is read.
            let p = pushes-is sep mid join (kind_at mid) refl is in
            subst (λ (f : List A → A → List A). Separated sep Item (f acc x) ts after) (sym p.1) (separated-snoc acc x ts mid (next mid) after d p.0 (sound x (next mid) after read)))
            n (s.0 ∷ []) xs s.1 rest (items (sound s.0 ts s.1 s.2) no_more) s.3,
        omega (arith, l),
      )

  -- Stops says where an item ends, as it does at the separator
  module _ (item : Reader A) (Stops : Input → Type 0) (at_sep : (ts rest : Input) → Is sep ts rest → Stops ts) (reads : (x : A) (ts rest : Input) → Item x ts rest → Stops rest → Reads item x ts rest) where
    more-stops : (xs : List A) (ts rest : Input) → More sep Item xs ts rest → Stops rest → Stops ts
    more-stops xs ts rest no_more stops = stops
    more-stops xs ts rest (one_more d e m) stops = at_sep _ _ d

    more-reach : (xs : List A) (ts rest : Input) → More sep Item xs ts rest → (whole : Option (List A × Input)) (limit : ℕ) (acc : List A) → GoesOn (pushes sep) item whole limit acc ts → Stops rest → GoesOn (pushes sep) item whole limit (acc ++ xs) rest
    more-reach xs ts rest no_more whole limit acc g stops = subst (λ (ys : List A). GoesOn (pushes sep) item whole limit ys rest) (sym (append-nil acc)) g
    more-reach xs ts rest (one_more {x = x} {xs = more} {a = a} {b = b} d e m) whole limit acc g stops =
        let r = reads x a b e (more-stops more b rest m stops) in
        let h = goes_on-token (pushes sep) item whole limit acc ts a b sep (λ ys y. ys ++ y ∷ []) x refl (pushes-one sep) g d r in
        subst (λ (ys : List A). GoesOn (pushes sep) item whole limit ys rest) (append_assoc acc (x ∷ []) more) (more-reach more b rest m whole limit (acc ++ x ∷ []) h stops)

    pub separated-reads : (xs : List A) (ts rest : Input) → Separated sep Item xs ts rest → Stops rest → pushes {A = A} sep (kind_at rest) ≡ None → Reads (separated sep item) xs ts rest
    unfolding separated
    separated-reads xs ts rest (items {x = x} {xs = more} {a = a} d m) stops none =
        let r = reads x ts a d (more-stops more a rest m stops) in
        let start : GoesOn (pushes sep) item (separated sep item ts) (length ts) (x ∷ []) a = record {
          turns = length a;
          enough = omega arith;
          same = ap (λ o. and_then o (λ y mid. chain (pushes sep) item (length mid) (y ∷ []) mid)) r.0;
          shorter = r.1;
        } in
        goes_on-end (pushes sep) item _ _ _ rest (kind_at rest) (more-reach more a rest m _ _ (x ∷ []) start stops) refl none

    more-chain : (n : ℕ) (xs : List A) (ts rest : Input) → More sep Item xs ts rest → length xs ≤ n → Stops rest → pushes {A = A} sep (kind_at rest) ≡ None → (acc : List A) → (chain (pushes sep) item n acc ts ≡ Some (acc ++ xs, rest)) × (length rest ≤ length ts)
    more-chain n xs ts rest no_more le stops none acc = (chain-end (pushes sep) item n acc ts none ∙ ap (λ (ys : List A). Some (ys, ts)) (sym (append-nil acc)), omega arith)
    more-chain zero xs ts rest (one_more d e m) le stops none acc = absurd (omega arith)
    more-chain (suc n) xs ts rest (one_more {x = x} {xs = more} {a = a} {b = b} d e m) le stops none acc =
        let r = reads x a b e (more-stops more b rest m stops) in
        let t = more-chain n more b rest m (omega arith) stops none (acc ++ x ∷ []) in
        let f = λ (o : Option (A × Input)). and_then o (λ y mid. chain (pushes sep) item n (acc ++ y ∷ []) mid) in (
          chain-step (pushes sep) item n acc ts (λ ys y. ys ++ y ∷ []) (ap (pushes {A = A} sep) (is-kind sep ts a d) ∙ pushes-one sep) ∙ ap f (ap item (is-next sep ts a d) ∙ r.0) ∙ t.0 ∙ ap (λ (ys : List A). Some (ys, rest)) (append_assoc acc (x ∷ []) more),
          omega (arith, is-shorter sep ts a d, r.1, t.1),
        )

    pub separated_to-reads : (n : ℕ) (xs : List A) (ts rest : Input) → Separated sep Item xs ts rest → length xs ≤ suc n → Stops rest → pushes {A = A} sep (kind_at rest) ≡ None → Reads (separated_to n sep item) xs ts rest
    unfolding separated_to
    separated_to-reads n xs ts rest (items {x = x} {xs = more} {a = a} d m) le stops none =
        let r = reads x ts a d (more-stops more a rest m stops) in
        let t = more-chain n more a rest m (omega arith) stops none (x ∷ []) in
        (ap (λ (o : Option (A × Input)). and_then o (λ y. chain (pushes sep) item n (y ∷ []))) r.0 ∙ t.0, omega (arith, r.1, t.1))
