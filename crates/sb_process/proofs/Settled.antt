-- Tables that are settled one after another.
use Rattle.std.proofs.lemmas.Bool.{and_right, or_parts}
use Rattle.std.proofs.Common.{◌≡◌, ◌∙◌, ℕ, ◌+◌, Bool, true, false, ◌||◌, ◌&&◌, cond, nat_eq, nat_lt, List, [], ◌∷◌, Some, option_map, unwrap_or, refl, sym, ap, eqb-true, arith}
use Rattle.std.proofs.lemmas.Bool.Decides.{nat_tests}
use Rattle.sb_tables.specs.Held.{Held, numbered, has_number, stored_at, with_stored, settled}
use Rattle.sb_process.specs.Made.{AreNumbered}
use Rattle.sb_process.specs.Sharing.{settled_if, settled_where}
use Rattle.sb_process.proofs.Settling.{none-with}

-- one table
abbrev is_it : ℕ → ℕ → Bool
is_it id table = nat_eq table id

pub none-settled : (id : ℕ) (tables : List Held) → has_number tables id ≡ false → settled_where (is_it id) tables ≡ tables
none-settled id [] none = refl
none-settled id (h ∷ tables) none =
    λ i. cond ((or_parts (nat_eq h.id id) (has_number tables id) none).0 i) (record h { stored = settled h.stored }) h ∷ none-settled id tables (or_parts (nat_eq h.id id) (has_number tables id) none).1 i

-- what is written back under its number is the settled table
pub one-settled : (id : ℕ) (tables : List Held) → AreNumbered tables → with_stored id (settled (stored_at tables id)) tables ≡ settled_where (is_it id) tables
one-settled id [] n = refl
one-settled id (h ∷ tables) n = by (nat_eq h.id id) refl (one-settled id tables n.1)
  where
    by : (b : Bool) → nat_eq h.id id ≡ b → with_stored id (settled (stored_at tables id)) tables ≡ settled_where (is_it id) tables →
        with_stored id (settled (unwrap_or (option_map (λ (x : Held). x.stored) (cond b (Some h) (numbered tables id))) (stored_at [] id))) (h ∷ tables)
        ≡ settled_if (is_it id) h ∷ settled_where (is_it id) tables
    by true p rest =
        let alone : has_number tables id ≡ false = ap (has_number tables) (sym (eqb-true h.id id p)) ∙ n.0 in
        λ i. cond (nat_eq h.id id) (record h { stored = settled h.stored }) h ∷ (none-with id (settled h.stored) tables alone ∙ sym (none-settled id tables alone)) i
    by false p rest =
        λ i. (ap (λ (b : Bool). cond b (record h { stored = settled (stored_at tables id) }) h) p ∙ sym (ap (λ (b : Bool). cond b (record h { stored = settled h.stored }) h) p)) i ∷ rest i

-- a settled table is settled again in vain
pub again-settled : (one other both : ℕ → Bool) → ((t : ℕ) → (one t || other t) ≡ both t) → (tables : List Held) → settled_where one (settled_where other tables) ≡ settled_where both tables
again-settled one other both e [] = refl
again-settled one other both e (h ∷ tables) = λ i. head i ∷ again-settled one other both e tables i
  where
    by : (a b : Bool) → one h.id ≡ a → settled_if one (cond b (record h { stored = settled h.stored }) h) ≡ cond (a || b) (record h { stored = settled h.stored }) h
    by true true p = ap (λ (x : Bool). cond x (record h { stored = settled h.stored }) (record h { stored = settled h.stored })) p
    by true false p = ap (λ (x : Bool). cond x (record h { stored = settled h.stored }) h) p
    by false true p = ap (λ (x : Bool). cond x (record h { stored = settled h.stored }) (record h { stored = settled h.stored })) p
    by false false p = ap (λ (x : Bool). cond x (record h { stored = settled h.stored }) h) p

    head : settled_if one (settled_if other h) ≡ settled_if both h
    head = by (one h.id) (other h.id) refl ∙ ap (λ (x : Bool). cond x (record h { stored = settled h.stored }) h) (e h.id)

pub none-passes : (test : ℕ → Bool) → ((t : ℕ) → test t ≡ false) → (tables : List Held) → settled_where test tables ≡ tables
none-passes test e [] = refl
none-passes test e (h ∷ tables) = λ i. cond (e h.id i) (record h { stored = settled h.stored }) h ∷ none-passes test e tables i

pub same-settled : (one other : ℕ → Bool) → ((t : ℕ) → one t ≡ other t) → (tables : List Held) → settled_where one tables ≡ settled_where other tables
same-settled one other e [] = refl
same-settled one other e (h ∷ tables) = λ i. cond (e h.id i) (record h { stored = settled h.stored }) h ∷ same-settled one other e tables i

-- ---- up to a number

-- the tables below a number that pass the test
abbrev pub up_to : (ℕ → Bool) → ℕ → ℕ → Bool
up_to test n table = nat_lt table n && test table

lt_more : (t n : ℕ) → nat_eq t n ≡ false → nat_lt t n ≡ nat_lt t (n + 1)
lt_more t n e = grind (arith, nat_tests)

lt_next : (n : ℕ) → nat_lt n (n + 1) ≡ true
lt_next n = grind (arith, nat_tests)

lt_none : (n : ℕ) → nat_lt n 0 ≡ false
lt_none n = grind (arith, nat_tests)

pub none-yet : (test : ℕ → Bool) (tables : List Held) → tables ≡ settled_where (up_to test 0) tables
none-yet test tables = sym (none-passes (up_to test 0) (λ t. ap (λ (b : Bool). b && test t) (lt_none t)) tables)

-- the next table doesn't pass
pub skip-next : (test : ℕ → Bool) (n : ℕ) → test n ≡ false → (tables : List Held) → settled_where (up_to test n) tables ≡ settled_where (up_to test (n + 1)) tables
skip-next test n e = same-settled (up_to test n) (up_to test (n + 1)) (λ t. by t (nat_eq t n) refl)
  where
    by : (t : ℕ) (b : Bool) → nat_eq t n ≡ b → up_to test n t ≡ up_to test (n + 1) t
    by t true p = let no : test t ≡ false = ap test (eqb-true t n p) ∙ e in and_right (nat_lt t n) (test t) no ∙ sym (and_right (nat_lt t (n + 1)) (test t) no)
    by t false p = ap (λ (b : Bool). b && test t) (lt_more t n p)

-- or it does
pub take-next : (test : ℕ → Bool) (n : ℕ) → test n ≡ true → (tables : List Held) → settled_where (is_it n) (settled_where (up_to test n) tables) ≡ settled_where (up_to test (n + 1)) tables
take-next test n e = again-settled (is_it n) (up_to test n) (up_to test (n + 1)) (λ t. by t (nat_eq t n) refl)
  where
    by : (t : ℕ) (b : Bool) → nat_eq t n ≡ b → (nat_eq t n || up_to test n t) ≡ up_to test (n + 1) t
    by t true p =
        ap (λ (b : Bool). b || up_to test n t) p
        ∙ sym (ap (λ (k : ℕ). up_to test (n + 1) k) (eqb-true t n p) ∙ ap (λ (b : Bool). b && test n) (lt_next n) ∙ e)
    by t false p = ap (λ (b : Bool). b || up_to test n t) p ∙ ap (λ (b : Bool). b && test t) (lt_more t n p)
