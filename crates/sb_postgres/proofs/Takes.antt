-- A field that is read is the field that was written, and what was written is read again.
use Rattle.std.proofs.Common.{◌≡◌, ◌⊎◌, ℕ, zero, suc, ◌+◌, ◌-◌, ◌^◌, ◌<◌, ◌≤◌, Bool, true, false, cond, ltb, eqb, List, [], ◌∷◌, ◌++◌, length, get_or, take, drop, Option, Some, None, Result, Ok, Err, refl, sym, ap, subst, ◌∙◌, append_assoc, arith, inl, inr}
use Rattle.std.specs.List.{flat_map, AllByRecursion}
use Rattle.std.specs.Int.{Width, w16, w32, byte_len, from_be_bytes, to_be_bytes}
use Rattle.std.proofs.lemmas.Bool.{cases_lt, ltb-false, le-ltb, eqb-true, eqb-false}
use Rattle.std.proofs.lemmas.Bool.Decides.{eqb_tells}
use Rattle.std.proofs.lemmas.List.{take_at, drop_at, take-append-drop, length-append, length-take, get_or-drop, get_or-take, get_or_past}
use Rattle.std.proofs.lemmas.List.Concat.{flat_map-cons}
use Rattle.std.proofs.lemmas.Nat.{be_bytes_2, be_bytes_4, from_be_bytes-to_be_bytes_2, from_be_bytes-to_be_bytes_4}
use Rattle.sb_postgres.specs.declared.error.Fault.{Fault}
use Rattle.sb_postgres.specs.declared.error.Fault.TheVariants as fault
use Rattle.sb_postgres.specs.declared.client_message.Target.{Target}
use Rattle.sb_postgres.specs.declared.client_message.Target.TheVariants.{Statement, Portal}
use Rattle.sb_postgres.specs.Fields.{text, half, word, value, counted, target, IsText, IsHalf, IsWord, IsValue, AreCounted}
use Rattle.sb_postgres.specs.Reading.{◌>>=◌, Reader, number_at, text_at, with_byte, value_at, target_at, items_at, counted_at}

abbrev pub IsBytes : List ℕ → Type 0
IsBytes bytes = (i : ℕ) → get_or bytes i 0 < 256

IsBytes-drop : (n : ℕ) (bytes : List ℕ) → IsBytes bytes → IsBytes (drop n bytes)
IsBytes-drop n bytes h i = rw get_or-drop (h (n + i))

IsBytes-take : (n : ℕ) (bytes : List ℕ) → IsBytes bytes → IsBytes (take n bytes)
IsBytes-take n bytes h i =
    elim (cases_lt i n) [
      | inl lt ↦ rw (get_or-take n bytes i 0 lt) (h i)
      | inr le ↦ rw (get_or_past (take n bytes) i 0 (omega (arith, length-take n bytes))) (omega arith)
    ]

IsBytes-rest : (b : ℕ) (bytes : List ℕ) → IsBytes (b ∷ bytes) → IsBytes bytes
IsBytes-rest b bytes h i = h (suc i)

-- the value of a step that did not fail
pub bind_ok : {A B : Type 0} (r : Result A Fault) (f : A → Result B Fault) (y : B) → (r >>= f) ≡ Ok y → (x : A) × (r ≡ Ok x) × (f x ≡ Ok y)
bind_ok (Ok x) f y e = (x, refl, e)
bind_ok (Err d) f y e = absurd cc

-- a test that did not fail
pub guard_ok : {A : Type 0} (b : Bool) (d : Fault) (x y : A) → cond b (Err d) (Ok x) ≡ Ok y → (b ≡ false) × (x ≡ y)
guard_ok true d x y e = absurd cc
guard_ok false d x y e = (refl, cc)

-- which way an answer was chosen
pub chosen : {A : Type 0} (b : Bool) (x y z : A) → cond b x y ≡ z → ((b ≡ true) × (x ≡ z)) ⊎ ((b ≡ false) × (y ≡ z))
chosen true x y z e = inl (refl, e)
chosen false x y z e = inr (refl, e)

abbrev done : {A : Type 0} → A → Result A Fault
done x = Ok x

pub ok_is : {A : Type 0} (x y : A) → done x ≡ done y → x ≡ y
ok_is x y e = cc

pub not_eqb : (a b : ℕ) → (a ≡ b → ⊥) → eqb a b ≡ false
not_eqb a b h = elim (eqb_tells a b) [ inl t ↦ absurd (h t.1) | inr f ↦ f.0 ]

-- what a reader took from the front
pub record Takes (bytes taken rest : List ℕ) : Type 0 where
  pub parts : bytes ≡ taken ++ rest
  pub rest_fits : IsBytes rest

pub Takes-then : (a x b y c : List ℕ) → Takes a x b → Takes b y c → Takes a (x ++ y) c
Takes-then a x b y c p q = record { parts = p.parts ∙ ap (λ (t : List ℕ). x ++ t) q.parts ∙ sym (append_assoc x y c); rest_fits = q.rest_fits }

-- a reader reads what has a spelling, and nothing else
pub record Field {X : Type 0} (one : Reader X) (spell : X → List ℕ) (Is : X → Type 0) : Type 0 where
  pub takes : (bytes : List ℕ) (x : X) (rest : List ℕ) → IsBytes bytes → one bytes ≡ Ok (x, rest) → Takes bytes (spell x) rest × Is x
  pub again : (x : X) (rest : List ℕ) → Is x → one (spell x ++ rest) ≡ Ok (x, rest)

-- ---- numbers

record IsWide (w : Width) (limit : ℕ) : Type 0 where
  len : (n : ℕ) → length (to_be_bytes w n) ≡ byte_len w
  back : (bytes : List ℕ) → length bytes ≡ byte_len w → IsBytes bytes → to_be_bytes w (from_be_bytes w bytes) ≡ bytes
  again : (n : ℕ) → n < limit → from_be_bytes w (to_be_bytes w n) ≡ n
  below : (bytes : List ℕ) → IsBytes bytes → from_be_bytes w bytes < limit

wide16 : IsWide w16 (2 ^ 16)
wide16 = record {
  len = λ n. refl;
  back = λ bytes len fits. be_bytes_2 bytes _ len fits refl;
  again = λ n lt. from_be_bytes-to_be_bytes_2 n lt;
  below = λ bytes fits. omega (arith, fits 0, fits 1);
}

wide32 : IsWide w32 (2 ^ 32)
wide32 = record {
  len = λ n. refl;
  back = λ bytes len fits. be_bytes_4 bytes _ len fits refl;
  again = λ n lt. from_be_bytes-to_be_bytes_4 n lt;
  below = λ bytes fits. omega (arith, fits 0, fits 1, fits 2, fits 3);
}

number_takes : (w : Width) (limit : ℕ) (wide : IsWide w limit) (bytes : List ℕ) (n : ℕ) (rest : List ℕ) → IsBytes bytes → number_at w bytes ≡ Ok (n, rest) → Takes bytes (to_be_bytes w n) rest × (n < limit)
number_takes w limit wide bytes n rest fits e =
    let g = guard_ok (ltb (length bytes) (byte_len w)) fault.Short (from_be_bytes w (take (byte_len w) bytes), drop (byte_len w) bytes) (n, rest) e in
    let long : byte_len w ≤ length bytes = ltb-false _ _ g.0 in
    let n-is : from_be_bytes w (take (byte_len w) bytes) ≡ n = ap (λ (p : ℕ × List ℕ). p.0) g.1 in
    let rest-is : drop (byte_len w) bytes ≡ rest = ap (λ (p : ℕ × List ℕ). p.1) g.1 in
    let front : to_be_bytes w n ≡ take (byte_len w) bytes = rw (← n-is) (wide.back (take (byte_len w) bytes) (omega (arith, length-take (byte_len w) bytes)) (IsBytes-take (byte_len w) bytes fits)) in
    (record { parts = rw (front, ← rest-is) (sym (take-append-drop (byte_len w) bytes)); rest_fits = rw (← rest-is) (IsBytes-drop (byte_len w) bytes fits) }, rw (← n-is) (wide.below (take (byte_len w) bytes) (IsBytes-take (byte_len w) bytes fits)))

number_again : (w : Width) (limit : ℕ) (wide : IsWide w limit) (n : ℕ) (rest : List ℕ) → n < limit → number_at w (to_be_bytes w n ++ rest) ≡ Ok (n, rest)
number_again w limit wide n rest lt =
    let len = wide.len n in
    let long : ltb (length (to_be_bytes w n ++ rest)) (byte_len w) ≡ false = le-ltb _ _ (omega (arith, length-append (to_be_bytes w n) rest)) in
    rw (long, take_at (to_be_bytes w n) rest (byte_len w) len, drop_at (to_be_bytes w n) rest (byte_len w) len, wide.again n lt) refl

pub halves : Field (number_at w16) half IsHalf
halves = record { takes = number_takes w16 (2 ^ 16) wide16; again = number_again w16 (2 ^ 16) wide16 }

pub words : Field (number_at w32) word IsWord
words = record { takes = number_takes w32 (2 ^ 32) wide32; again = number_again w32 (2 ^ 32) wide32 }

-- ---- texts

text_takes : (bytes t rest : List ℕ) → IsBytes bytes → text_at bytes ≡ Ok (t, rest) → Takes bytes (text t) rest × IsText t
unfolding text_at
text_takes [] t rest fits e = absurd cc
text_takes (zero ∷ bytes) t rest fits e =
    subst (λ (p : List ℕ × List ℕ). Takes (0 ∷ bytes) (text p.0) p.1 × IsText p.0) (ok_is ([], bytes) (t, rest) e) (record { parts = refl; rest_fits = IsBytes-rest 0 bytes fits }, tt)
text_takes (suc b ∷ bytes) t rest fits e =
    let a = bind_ok (text_at bytes) (λ read. Ok (with_byte (suc b) read)) (t, rest) e in
    let h = text_takes bytes a.0.0 a.0.1 (IsBytes-rest (suc b) bytes fits) a.1 in
    subst (λ (p : List ℕ × List ℕ). Takes (suc b ∷ bytes) (text p.0) p.1 × IsText p.0) (ok_is (with_byte (suc b) a.0) (t, rest) a.2)
    (record { parts = ap (λ (w : List ℕ). suc b ∷ w) h.0.parts; rest_fits = h.0.rest_fits }, (omega arith, h.1))

text_again : (t rest : List ℕ) → IsText t → text_at (text t ++ rest) ≡ Ok (t, rest)
unfolding text_at
text_again [] rest fits = refl
text_again (zero ∷ t) rest fits = absurd (omega (arith, fits.0))
text_again (suc b ∷ t) rest fits = ap (λ (r : Result (List ℕ × List ℕ) Fault). r >>= λ read. Ok (with_byte (suc b) read)) (text_again t rest fits.1)

pub texts : Field text_at text IsText
texts = record { takes = text_takes; again = text_again }

-- ---- values

value_takes : (bytes : List ℕ) (v : Option (List ℕ)) (rest : List ℕ) → IsBytes bytes → value_at bytes ≡ Ok (v, rest) → Takes bytes (value v) rest × IsValue v
unfolding value_at
value_takes bytes v rest fits e =
    let b = bind_ok (number_at w32 bytes) (λ n. cond (eqb n.0 (2 ^ 32 - 1)) (Ok (None, n.1)) (cond (ltb (length n.1) n.0) (Err fault.Short) (Ok (Some (take n.0 n.1), drop n.0 n.1)))) (v, rest) e in
    let n = b.0 in
    let t = words.takes bytes n.0 n.1 fits b.1 in
    elim (chosen (eqb n.0 (2 ^ 32 - 1)) (Ok (None, n.1)) (cond (ltb (length n.1) n.0) (Err fault.Short) (Ok (Some (take n.0 n.1), drop n.0 n.1))) (Ok (v, rest)) b.2) [
      | inl h ↦
          let is : n.0 ≡ 2 ^ 32 - 1 = eqb-true _ _ h.0 in
          let none : Takes bytes (value None) n.1 = subst (λ (k : ℕ). Takes bytes (word k) n.1) is t.0 in
          subst (λ (p : Option (List ℕ) × List ℕ). Takes bytes (value p.0) p.1 × IsValue p.0) (ok_is (None, n.1) (v, rest) h.1) (none, tt)
      | inr h ↦
          let g = guard_ok (ltb (length n.1) n.0) fault.Short (Some (take n.0 n.1), drop n.0 n.1) (v, rest) h.1 in
          let other : n.0 ≡ 2 ^ 32 - 1 → ⊥ = eqb-false _ _ h.0 in
          let long : n.0 ≤ length n.1 = ltb-false _ _ g.0 in
          let len : length (take n.0 n.1) ≡ n.0 = omega (arith, length-take n.0 n.1) in
          let second : Takes n.1 (take n.0 n.1) (drop n.0 n.1) = record { parts = sym (take-append-drop n.0 n.1); rest_fits = IsBytes-drop n.0 n.1 t.0.rest_fits } in
          let both = Takes-then bytes (word n.0) n.1 (take n.0 n.1) (drop n.0 n.1) t.0 second in
          let some : Takes bytes (value (Some (take n.0 n.1))) (drop n.0 n.1) = subst (λ (k : ℕ). Takes bytes (word k ++ take n.0 n.1) (drop n.0 n.1)) (sym len) both in
          let short : length (take n.0 n.1) + 1 < 2 ^ 32 = omega (arith, t.1, other) in
          subst (λ (p : Option (List ℕ) × List ℕ). Takes bytes (value p.0) p.1 × IsValue p.0) g.1 (some, short)
    ]

value_again : (v : Option (List ℕ)) (rest : List ℕ) → IsValue v → value_at (value v ++ rest) ≡ Ok (v, rest)
unfolding value_at
value_again None rest fits = rw (words.again (2 ^ 32 - 1) rest (omega arith)) refl
value_again (Some bytes) rest fits =
    let long : ltb (length (bytes ++ rest)) (length bytes) ≡ false = le-ltb _ _ (omega (arith, length-append bytes rest)) in
    let other : eqb (length bytes) (2 ^ 32 - 1) ≡ false = not_eqb _ _ (λ e. omega (arith, fits, e)) in
    ap value_at (append_assoc (word (length bytes)) bytes rest) ∙ rw (words.again (length bytes) (bytes ++ rest) (omega (arith, fits)), other, long, take_at bytes rest (length bytes) refl, drop_at bytes rest (length bytes) refl) refl

pub values : Field value_at value IsValue
values = record { takes = value_takes; again = value_again }

-- ---- what is named

target_takes : (bytes : List ℕ) (t : Target) (rest : List ℕ) → IsBytes bytes → target_at bytes ≡ Ok (t, rest) → Takes bytes (target t) rest × Unit {0}
unfolding target_at
target_takes [] t rest fits e = absurd cc
target_takes (b ∷ bytes) t rest fits e =
    elim (chosen (eqb b 83) (Ok (Statement, bytes)) (cond (eqb b 80) (Ok (Portal, bytes)) (Err fault.Target)) (Ok (t, rest)) e) [
      | inl h ↦
          let is : b ≡ 83 = eqb-true _ _ h.0 in
          let taken : Takes (b ∷ bytes) (target Statement) bytes = record { parts = ap (λ (k : ℕ). k ∷ bytes) is; rest_fits = IsBytes-rest b bytes fits } in
          subst (λ (p : Target × List ℕ). Takes (b ∷ bytes) (target p.0) p.1 × Unit {0}) (ok_is (Statement, bytes) (t, rest) h.1) (taken, tt)
      | inr h ↦ elim (chosen (eqb b 80) (Ok (Portal, bytes)) (Err fault.Target) (Ok (t, rest)) h.1) [
        | inl k ↦
            let is : b ≡ 80 = eqb-true _ _ k.0 in
            let taken : Takes (b ∷ bytes) (target Portal) bytes = record { parts = ap (λ (k : ℕ). k ∷ bytes) is; rest_fits = IsBytes-rest b bytes fits } in
            subst (λ (p : Target × List ℕ). Takes (b ∷ bytes) (target p.0) p.1 × Unit {0}) (ok_is (Portal, bytes) (t, rest) k.1) (taken, tt)
        | inr k ↦ let e : Err fault.Target ≡ Ok (t, rest) = k.1 in absurd cc
      ]
    ]

target_again : (t : Target) (rest : List ℕ) → Unit {0} → target_at (target t ++ rest) ≡ Ok (t, rest)
unfolding target_at
target_again Statement rest fits = refl
target_again Portal rest fits = refl

pub targets : Field target_at target (λ t. Unit {0})
targets = record { takes = target_takes; again = target_again }

-- ---- lists

items_take : {X : Type 0} {one : Reader X} {spell : X → List ℕ} {Is : X → Type 0} → Field one spell Is → (n : ℕ) (bytes : List ℕ) (x : List X × List ℕ) → IsBytes bytes → items_at one n bytes ≡ Ok x
    → Takes bytes (flat_map spell x.0) x.1 × (length x.0 ≡ n) × AllByRecursion Is x.0
unfolding items_at
items_take {X} {one} {spell} {Is} field zero bytes x fits e =
    subst (λ (y : List X × List ℕ). Takes bytes (flat_map spell y.0) y.1 × (length y.0 ≡ 0) × AllByRecursion Is y.0) (ok_is ([], bytes) x e) (record { parts = refl; rest_fits = fits }, refl, tt)
items_take {X} {one} {spell} {Is} field (suc n) bytes x fits e =
    let a = bind_ok (one bytes) (λ first. items_at one n first.1 >>= λ others. Ok (first.0 ∷ others.0, others.1)) x e in
    let b = bind_ok (items_at one n a.0.1) (λ others. Ok (a.0.0 ∷ others.0, others.1)) x a.2 in
    let first = field.takes bytes a.0.0 a.0.1 fits a.1 in
    let second = items_take field n a.0.1 b.0 first.0.rest_fits b.1 in
    let both = Takes-then bytes (spell a.0.0) a.0.1 (flat_map spell b.0.0) b.0.1 first.0 second.0 in
    let made : List X × List ℕ = (a.0.0 ∷ b.0.0, b.0.1) in
    subst (λ (y : List X × List ℕ). Takes bytes (flat_map spell y.0) y.1 × (length y.0 ≡ suc n) × AllByRecursion Is y.0) (ok_is made x b.2) (rw flat_map-cons both, ap suc second.1, (first.1, second.2))

items_again : {X : Type 0} {one : Reader X} {spell : X → List ℕ} {Is : X → Type 0} → Field one spell Is → (xs : List X) (rest : List ℕ) → AllByRecursion Is xs → items_at one (length xs) (flat_map spell xs ++ rest) ≡ Ok (xs, rest)
unfolding items_at
items_again field [] rest fits = refl
items_again {X} {one} {spell} {Is} field (x ∷ xs) rest fits =
    let regrouped : flat_map spell (x ∷ xs) ++ rest ≡ spell x ++ (flat_map spell xs ++ rest) = ap (λ (t : List ℕ). t ++ rest) (flat_map-cons spell x xs) ∙ append_assoc (spell x) (flat_map spell xs) rest in
    ap (items_at one (suc (length xs))) regrouped ∙ rw (field.again x (flat_map spell xs ++ rest) fits.0, items_again field xs rest fits.1) refl

counted_takes : {X : Type 0} {one : Reader X} {spell : X → List ℕ} {Is : X → Type 0} → Field one spell Is → (bytes : List ℕ) (xs : List X) (rest : List ℕ) → IsBytes bytes → counted_at one bytes ≡ Ok (xs, rest)
    → Takes bytes (counted spell xs) rest × AreCounted Is xs
unfolding counted_at
counted_takes {X} {one} {spell} {Is} field bytes xs rest fits e =
    let a = bind_ok (number_at w16 bytes) (λ n. items_at one n.0 n.1) (xs, rest) e in
    let first = halves.takes bytes a.0.0 a.0.1 fits a.1 in
    let second = items_take field a.0.0 a.0.1 (xs, rest) first.0.rest_fits a.2 in
    let both = Takes-then bytes (half a.0.0) a.0.1 (flat_map spell xs) rest first.0 second.0 in
    let whole : Takes bytes (counted spell xs) rest = subst (λ (k : ℕ). Takes bytes (half k ++ flat_map spell xs) rest) (sym second.1) both in
    (whole, (omega (arith, second.1, first.1), second.2))

counted_again : {X : Type 0} {one : Reader X} {spell : X → List ℕ} {Is : X → Type 0} → Field one spell Is → (xs : List X) (rest : List ℕ) → AreCounted Is xs → counted_at one (counted spell xs ++ rest) ≡ Ok (xs, rest)
unfolding counted_at
counted_again {X} {one} {spell} {Is} field xs rest fits =
    ap (counted_at one) (append_assoc (half (length xs)) (flat_map spell xs) rest) ∙ rw (halves.again (length xs) (flat_map spell xs ++ rest) fits.0, items_again field xs rest fits.1) refl

pub listed : {X : Type 0} {one : Reader X} {spell : X → List ℕ} {Is : X → Type 0} → Field one spell Is → Field (counted_at one) (counted spell) (AreCounted Is)
listed field = record { takes = counted_takes field; again = counted_again field }
