-- Tokens: what a test on them says, and what a token's presence decides.
use Rattle.std.proofs.Common.{◌≡◌, ◌≤◌, ◌<◌, ℕ, Bool, true, false, cond, List, [], ◌∷◌, length, Option, Some, None, ap, sym, ◌∙◌, refl, subst, inl, inr, ◌⊎◌, rules, arith}
use Rattle.std.proofs.lemmas.Option.{cond_some}
use denote.Enum.Bare.{same_true, true_same}
use Rattle.sb_syntax.specs.declared.kind.TokenKind.{TokenKind}
use Rattle.sb_syntax.specs.contracts.kind.TokenKind.{the_type}
use Rattle.sb_syntax.specs.Input.{Lexeme, Input, same_kind, Is, token}
use Rattle.sb_syntax.specs.Reading.{Reader, and_then, kind_at, sees, next, expect, bytes_of}

-- what the reader reads, and that it goes forward
abbrev pub Reads : {A : Type 0} → Reader A → A → Input → Input → Type 0
Reads p x ts rest = (p ts ≡ Some (x, rest)) × (length rest ≤ length ts)

-- the two steps of a read that reads something
pub two_steps : {A B : Type 0} (r : Option (A × Input)) (f : A → Reader B) (y : B × Input) → and_then r f ≡ Some y → (x : A) × (mid : Input) × (r ≡ Some (x, mid)) × (f x mid ≡ Some y)
two_steps None f y e = cc
two_steps (Some p) f y e = (p.0, p.1, refl, e)

pub chosen : {A : Type 0} (b : Bool) (x y : Option A) (z : A) → cond b x y ≡ Some z → ((b ≡ true) × (x ≡ Some z)) ⊎ ((b ≡ false) × (y ≡ Some z))
chosen true x y z e = inl (refl, e)
chosen false x y z e = inr (refl, e)

pub guarded_pair : {A : Type 0} (b : Bool) (x z : A) (ts rest : Input) → cond {A = Option (A × Input)} b (Some (x, ts)) None ≡ Some (z, rest) → (b ≡ true) × (x ≡ z) × (ts ≡ rest)
guarded_pair {A = A} b x z ts rest e =
    let p = cond_some b (x, ts) (z, rest) e in
    (p.0, ap (λ (q : A × Input). q.0) p.1, ap (λ (q : A × Input). q.1) p.1)

pub same_kind-true : (a b : TokenKind) → same_kind a b ≡ true → a ≡ b
unfolding same_kind
same_kind-true a b e = same_true the_type (search rules) a b e

pub same_kind-refl : (a : TokenKind) → same_kind a a ≡ true
unfolding same_kind
same_kind-refl a = true_same the_type a a refl

-- ---- a token that stands there

pub is-kind : (kind : TokenKind) (ts rest : Input) → Is kind ts rest → kind_at ts ≡ Some kind
unfolding kind_at
is-kind kind ts rest token = refl

pub is-sees : (kind : TokenKind) (ts rest : Input) → Is kind ts rest → sees kind ts ≡ true
unfolding sees
is-sees kind ts rest token = same_kind-refl kind

-- another kind is not seen
pub is-other : (kind other : TokenKind) (ts rest : Input) → Is kind ts rest → same_kind kind other ≡ false → sees other ts ≡ false
unfolding sees
is-other kind other ts rest token differ = differ

pub is-next : (kind : TokenKind) (ts rest : Input) → Is kind ts rest → next ts ≡ rest
unfolding next
is-next kind ts rest token = refl

pub is-shorter : (kind : TokenKind) (ts rest : Input) → Is kind ts rest → length rest < length ts
is-shorter kind ts rest token = omega arith

pub is-expect : (kind : TokenKind) (ts rest : Input) → Is kind ts rest → expect kind ts ≡ Some (tt, rest)
unfolding expect next sees
is-expect kind ts rest token = ap (λ b. cond b (Some (tt, rest)) None) (same_kind-refl kind)

-- two kinds that a test tells apart
pub differs : (p : Option TokenKind → Bool) (kind : TokenKind) (ts : Input) (a b : Bool) → p (kind_at ts) ≡ a → p (Some kind) ≡ b → (a ≡ b → ⊥) → sees kind ts ≡ false
unfolding kind_at sees
differs p kind [] a b e f other = refl
differs p kind (t ∷ ts) a b e f other = go (same_kind t.kind kind) refl
  where
    go : (c : Bool) → same_kind t.kind kind ≡ c → c ≡ false
    go true is = absurd (other (sym e ∙ ap (λ (x : TokenKind). p (Some x)) (same_kind-true t.kind kind is) ∙ f))
    go false is = refl

-- ---- and back

of_kind : (t : Lexeme) (kind : TokenKind) (rest : Input) → t.kind ≡ kind → Is kind (t ∷ rest) rest
of_kind t kind rest e = subst (λ (k : TokenKind). Is k (t ∷ rest) rest) e token

pub seen-is : (kind : TokenKind) (ts : Input) → sees kind ts ≡ true → Is kind ts (next ts)
unfolding sees next
seen-is kind [] e = absurd (cc)
seen-is kind (t ∷ ts) e = of_kind t kind ts (same_kind-true t.kind kind e)

pub kind-is : (kind : TokenKind) (ts : Input) → kind_at ts ≡ Some kind → Is kind ts (next ts)
unfolding kind_at next
kind-is kind [] e = absurd (cc)
kind-is kind (t ∷ ts) e = of_kind t kind ts (cc)

pub expect-is : (kind : TokenKind) (ts rest : Input) (u : Unit {0}) → expect kind ts ≡ Some (u, rest) → Is kind ts rest
unfolding expect
expect-is kind ts rest u e =
    let p = guarded_pair {A = Unit {0}} (sees kind ts) tt u (next ts) rest e in
    subst (λ (r : Input). Is kind ts r) p.2 (seen-is kind ts p.0)

-- the bytes of a token
pub data Has (kind : TokenKind) (text : List ℕ) : Input → Input → Type 0 where
  has : {rest : Input} → Has kind text (record { kind = kind; text = text } ∷ rest) rest

of_bytes : (t : Lexeme) (kind : TokenKind) (rest : Input) → t.kind ≡ kind → Has kind t.text (t ∷ rest) rest
of_bytes t kind rest e = subst (λ (k : TokenKind). Has k t.text (t ∷ rest) rest) e has

pub bytes_of-has : (kind : TokenKind) (ts rest : Input) (text : List ℕ) → bytes_of kind ts ≡ Some (text, rest) → Has kind text ts rest
unfolding bytes_of
bytes_of-has kind [] rest text e = absurd (cc)
bytes_of-has kind (t ∷ ts) rest text e =
    let p = guarded_pair (same_kind t.kind kind) t.text text ts rest e in
    subst (λ (x : List ℕ). Has kind x (t ∷ ts) rest) p.1 (subst (λ (x : Input). Has kind t.text (t ∷ ts) x) p.2 (of_bytes t kind ts (same_kind-true t.kind kind p.0)))
