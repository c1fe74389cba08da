-- The turns of a loop that reads one item a turn.
use Rattle.std.proofs.Common.{Bool, true, false, cond, ◌++◌, ◌≡◌, ◌≤◌, ◌<◌, ℕ, zero, suc, List, [], ◌∷◌, length, length-append, Option, Some, None, ap, sym, ◌∙◌, refl, arith}
use Rattle.sb_syntax.specs.declared.kind.TokenKind.{TokenKind}
use Rattle.sb_syntax.specs.declared.error.Fault.{Fault}
use Rattle.sb_syntax.specs.declared.error.Fault.TheVariants.{Refused, NoMemory}
use Rattle.sb_syntax.specs.Input.{Input}
use Rattle.sb_syntax.specs.Reading.{Reader, Joins, chain, turn, kind_at, next, and_then, Fails, sees, pushes}
use Rattle.sb_syntax.specs.Turns.{GoesOn, GoesUpTo}

-- where something is joined a token stands, so what follows it is shorter
pub next_shorter : {X : Type 0} (joins : Option TokenKind → Option X) (ts : Input) (x : X) → joins None ≡ None → joins (kind_at ts) ≡ Some x → length (next ts) < length ts
unfolding kind_at next
next_shorter joins [] x none some = let e : None ≡ Some x = sym none ∙ some in cc
next_shorter joins (t ∷ ts) x none some = omega arith

pub next_falls : {X : Type 0} (joins : Option TokenKind → Option X) (ts : Input) (k : Option TokenKind) (x : X) (after new : Input) → joins None ≡ None → k ≡ kind_at ts → joins k ≡ Some x → after ≡ next ts → length new ≤ length after → length new < length ts
next_falls joins ts k x after new none is some past le =
    let lt = next_shorter joins ts x none (ap joins (sym is) ∙ some) in
    omega (arith, ap (length {A = _}) past)

module _ {A B : Type 0} (joins : Joins B A) (item : Reader A) where
  pub chain-turn : (turns : ℕ) (acc : B) (ts : Input) (join : B → A → B) → joins (kind_at ts) ≡ Some join → 0 < turns → (m : ℕ) × (turns ≡ suc m) × (chain joins item turns acc ts ≡ and_then (item (next ts)) (λ x. chain joins item m (join acc x)))
  unfolding chain
  chain-turn zero acc ts join some lt = absurd (omega arith)
  chain-turn (suc m) acc ts join some lt = (m, refl, ap (λ j. turn j item (chain joins item m) acc ts) some)

  pub chain-end : (turns : ℕ) (acc : B) (ts : Input) → joins (kind_at ts) ≡ None → chain joins item turns acc ts ≡ Some (acc, ts)
  unfolding chain
  chain-end zero acc ts none = refl
  chain-end (suc m) acc ts none = ap (λ j. turn j item (chain joins item m) acc ts) none

  -- x was read behind the token k, and y is what it is joined to
  pub goes_on-next : (whole : Option (B × Input)) (limit : ℕ) (acc y : B) (ts after rest : Input) (k : Option TokenKind) (join : B → A → B) (x : A) → joins None ≡ None → GoesOn joins item whole limit acc ts → k ≡ kind_at ts → joins k ≡ Some join → after ≡ next ts
      → (item after ≡ Some (x, rest)) × (length rest ≤ length after) → y ≡ join acc x → GoesOn joins item whole limit y rest
  goes_on-next whole limit acc y ts after rest k join x none g is some past read joined =
      let some' = ap joins (sym is) ∙ some in
      let lt = next_falls joins ts k join after rest none is some past read.1 in
      let e = g.enough in
      let s = chain-turn g.turns acc ts join some' (omega arith) in
      let f = λ (r : Option (A × Input)). and_then r (λ x. chain joins item s.0 (join acc x)) in
      record {
        turns = s.0;
        enough = omega (arith, s.1);
        same = g.same ∙ s.2 ∙ ap f (ap item (sym past) ∙ read.0) ∙ ap (λ b. chain joins item s.0 b rest) (sym joined);
        shorter = omega (arith, g.shorter);
      }

  -- nothing was read behind the token k
  pub goes_on-stop : (whole : Option (B × Input)) (limit : ℕ) (acc : B) (ts after : Input) (k : Option TokenKind) (join : B → A → B) → joins None ≡ None → GoesOn joins item whole limit acc ts → k ≡ kind_at ts → joins k ≡ Some join → after ≡ next ts
      → item after ≡ None → whole ≡ None
  goes_on-stop whole limit acc ts after k join none g is some past read =
      let some' = ap joins (sym is) ∙ some in
      let lt = next_shorter joins ts join none some' in
      let e = g.enough in
      let s = chain-turn g.turns acc ts join some' (omega arith) in
      let f = λ (r : Option (A × Input)). and_then r (λ x. chain joins item s.0 (join acc x)) in
      g.same ∙ s.2 ∙ ap f (ap item (sym past) ∙ read)

  -- the same for what the body's `?` passes on
  pub goes_on-err : (whole : Option (B × Input)) (limit : ℕ) (acc : B) (ts after : Input) (k : Option TokenKind) (join : B → A → B) (e : Fault) → joins None ≡ None → GoesOn joins item whole limit acc ts → k ≡ kind_at ts → joins k ≡ Some join → after ≡ next ts
      → Fails e (item after) → Fails e whole
  goes_on-err whole limit acc ts after k join Refused none g is some past read = goes_on-stop whole limit acc ts after k join none g is some past read
  goes_on-err whole limit acc ts after k join NoMemory none g is some past read = tt

  pub goes_on-end : (whole : Option (B × Input)) (limit : ℕ) (acc : B) (ts : Input) (k : Option TokenKind) → GoesOn joins item whole limit acc ts → k ≡ kind_at ts → joins k ≡ None → (whole ≡ Some (acc, ts)) × (length ts ≤ limit)
  goes_on-end whole limit acc ts k g is none = (g.same ∙ chain-end g.turns acc ts (ap joins (sym is) ∙ none), g.shorter)

  -- ---- the same with a bound on the turns

  pub chain-step : (turns : ℕ) (acc : B) (ts : Input) (join : B → A → B) → joins (kind_at ts) ≡ Some join → chain joins item (suc turns) acc ts ≡ and_then (item (next ts)) (λ x. chain joins item turns (join acc x))
  unfolding chain
  chain-step turns acc ts join some = ap (λ j. turn j item (chain joins item turns) acc ts) some

  pub goes_up-next : (whole : Option (B × Input)) (limit turns less : ℕ) (acc y : B) (ts after rest : Input) (k : Option TokenKind) (join : B → A → B) (x : A) → joins None ≡ None → turns ≡ suc less → GoesUpTo joins item whole limit turns acc ts → k ≡ kind_at ts → joins k ≡ Some join → after ≡ next ts
      → (item after ≡ Some (x, rest)) × (length rest ≤ length after) → y ≡ join acc x → GoesUpTo joins item whole limit less y rest
  goes_up-next whole limit turns less acc y ts after rest k join x none fewer g is some past read joined =
      let lt = next_falls joins ts k join after rest none is some past read.1 in
      let f = λ (r : Option (A × Input)). and_then r (λ x. chain joins item less (join acc x)) in
      record {
        same = g.same ∙ ap (λ n. chain joins item n acc ts) fewer ∙ chain-step less acc ts join (ap joins (sym is) ∙ some) ∙ ap f (ap item (sym past) ∙ read.0) ∙ ap (λ b. chain joins item less b rest) (sym joined);
        shorter = omega (arith, g.shorter);
      }

  pub goes_up-err : (whole : Option (B × Input)) (limit turns less : ℕ) (acc : B) (ts after : Input) (k : Option TokenKind) (join : B → A → B) (e : Fault) → turns ≡ suc less → GoesUpTo joins item whole limit turns acc ts → k ≡ kind_at ts → joins k ≡ Some join → after ≡ next ts
      → Fails e (item after) → Fails e whole
  goes_up-err whole limit turns less acc ts after k join Refused fewer g is some past read =
      let f = λ (r : Option (A × Input)). and_then r (λ x. chain joins item less (join acc x)) in
      g.same ∙ ap (λ n. chain joins item n acc ts) fewer ∙ chain-step less acc ts join (ap joins (sym is) ∙ some) ∙ ap f (ap item (sym past) ∙ read)
  goes_up-err whole limit turns less acc ts after k join NoMemory fewer g is some past read = tt

  pub goes_up-end : (whole : Option (B × Input)) (limit turns : ℕ) (acc : B) (ts : Input) (k : Option TokenKind) → GoesUpTo joins item whole limit turns acc ts → k ≡ kind_at ts → joins k ≡ None → (whole ≡ Some (acc, ts)) × (length ts ≤ limit)
  goes_up-end whole limit turns acc ts k g is none = (g.same ∙ chain-end turns acc ts (ap joins (sym is) ∙ none), g.shorter)

  pub goes_up-full : (whole : Option (B × Input)) (limit turns : ℕ) (acc : B) (ts : Input) → turns ≡ 0 → GoesUpTo joins item whole limit turns acc ts → (whole ≡ Some (acc, ts)) × (length ts ≤ limit)
  unfolding chain
  goes_up-full whole limit turns acc ts none g = (g.same ∙ ap (λ n. chain joins item n acc ts) none, g.shorter)

pub one_longer : {A : Type 0} (xs ys : List A) (x : A) → ys ≡ xs ++ x ∷ [] → length ys ≡ suc (length xs)
one_longer xs ys x e = omega (arith, ap (length {A = _}) e, length-append xs (x ∷ []))

-- a list that goes on behind a separator
pub pushes_yes : {A : Type 0} (sep : TokenKind) (ts : Input) (seen : Bool) → seen ≡ sees sep ts → seen ≡ true → pushes {A = A} sep (kind_at ts) ≡ Some (λ xs x. xs ++ x ∷ [])
unfolding sees kind_at
pushes_yes sep [] seen is so = let e : false ≡ true = sym is ∙ so in cc
pushes_yes sep (t ∷ ts) seen is so = ap (λ b. cond b (Some (λ xs x. xs ++ x ∷ [])) None) (sym is ∙ so)

pub pushes_no : {A : Type 0} (sep : TokenKind) (ts : Input) (seen : Bool) → seen ≡ sees sep ts → seen ≡ false → pushes {A = A} sep (kind_at ts) ≡ None
unfolding sees kind_at
pushes_no sep [] seen is so = refl
pushes_no sep (t ∷ ts) seen is so = ap (λ b. cond b (Some (λ xs x. xs ++ x ∷ [])) None) (sym is ∙ so)

pub seen_falls : (sep : TokenKind) (ts after new : Input) (seen : Bool) → seen ≡ sees sep ts → seen ≡ true → after ≡ next ts → length new ≤ length after → length new < length ts
seen_falls sep ts after new seen is so past le = next_falls (pushes {A = ℕ} sep) ts (kind_at ts) _ after new refl refl (pushes_yes sep ts seen is so) past le
