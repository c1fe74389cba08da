-- Candidates that are looked at one after another.
use Rattle.std.proofs.Common.{◌≡◌, ◌∙◌, ◌≢◌, ℕ, ◌+◌, ◌<◌, ◌≤◌, nat_lt, Bool, true, false, not, ◌&&◌, nat_eq, List, Option, Some, None, refl, sym, ap, arith, eq-eqb, eqb-true}
use Rattle.std.proofs.lemmas.Bool.{ltb-true, ltb-false, and_parts}
use Rattle.sb_value.specs.declared.id.Who.{Who}
use Rattle.sb_value.specs.NetEffect.{is_triggered}
use Rattle.sb_rawlog.specs.Records.{Record}
use Rattle.sb_rawlog.specs.Sessions.{changes_since}
use Rattle.sb_catalog.specs.declared.rule.Rule.{Rule}
use Rattle.sb_process.specs.Transactions.{Kept, mark_of}
use Rattle.sb_process.specs.Triggered.{is_hit}

-- a rule is hit where the marks are the same
pub hit-same : (who : Who) (old new : Kept) (records : List Record) (rule : Option Rule) → ((s r : ℕ) → mark_of new s r ≡ mark_of old s r) → is_hit who new records rule ≡ is_hit who old records rule
hit-same who old new records None h = refl
hit-same who old new records (Some rule) h = ap (λ (t : ℕ). is_triggered rule.triggers rule.table (changes_since who t records)) (h who.session rule.id)

-- of the numbers below n + 1 the last one is n
pub last-below : (P : ℕ → Type 0) (n r : ℕ) → r < n + 1 → (r < n → P r) → P n → P r
last-below P n r l below here = by (nat_eq r n) refl
  where
    by : (b : Bool) → nat_eq r n ≡ b → P r
    by true e = rw (eqb-true r n e) here
    by false e = below (let differ : r ≢ n = λ same. absurd (let at = eq-eqb r n same in cc) in omega arith)

-- another session's candidates stay
pub left-other : (c s q : Bool) → s ≡ false → (c && not (s && q)) ≡ c
left-other true false q e = refl
left-other false false q e = refl
left-other c true q e = absurd (cc)

-- what is below the next number that is looked at has been looked at
pub seen-below : (next first : ℕ) (flag hit : ℕ → Bool) → ((r : ℕ) → r < next → flag r ≡ true → hit r ≡ true) → ((r : ℕ) → next ≤ r → r < first → flag r ≡ false) →
    (r : ℕ) → r < first → flag r ≡ true → hit r ≡ true
seen-below next first flag hit old least r below f = by (nat_lt r next) refl
  where
    by : (b : Bool) → nat_lt r next ≡ b → hit r ≡ true
    by true e = old r (ltb-true r next e) f
    by false e = absurd (let none = least r (ltb-false r next e) below in cc)

module _ (hit : ℕ → Bool) (rule : ℕ) (flag kept : ℕ → Bool) (eligible : ℕ → Bool) where
  -- a rule that isn't hit is taken from the set and from the candidates

  pub left-candidates : (same : Bool) → same ≡ true → ((r : ℕ) → flag r ≡ (kept r && eligible r)) → (r : ℕ) → (flag r && not (nat_eq r rule)) ≡ ((kept r && not (same && nat_eq r rule)) && eligible r)
  left-candidates same e h r = by (flag r) (kept r) (eligible r) (nat_eq r rule) same (h r) e
    where
      by : (f c l q s : Bool) → f ≡ (c && l) → s ≡ true → (f && not q) ≡ ((c && not (s && q)) && l)
      by f true true true true p u = ap (λ (x : Bool). x && false) p
      by f true true false true p u = ap (λ (x : Bool). x && true) p
      by f true false true true p u = ap (λ (x : Bool). x && false) p
      by f true false false true p u = ap (λ (x : Bool). x && true) p
      by f false true q true p u = ap (λ (x : Bool). x && not q) p
      by f false false q true p u = ap (λ (x : Bool). x && not q) p
      by f c l q false p u = absurd (cc)

  pub left-hit : (n : ℕ) → rule ≡ n → ((r : ℕ) → r < n → flag r ≡ true → hit r ≡ true) → (r : ℕ) → r < n + 1 → (flag r && not (nat_eq r rule)) ≡ true → hit r ≡ true
  left-hit n same h r l e = last-below (λ (k : ℕ). (flag k && not (nat_eq k rule)) ≡ true → hit k ≡ true) n r l (λ below f. h r below (and_parts (flag r) (not (nat_eq r rule)) f).0) never e
    where
      never : (flag n && not (nat_eq n rule)) ≡ true → hit n ≡ true
      never f = let gone = (and_parts (flag n) (not (nat_eq n rule)) f).1 in let at = eq-eqb n rule (sym same) in absurd (cc (ap not at))

  pub left-stay : (same : Bool) → same ≡ true → hit rule ≡ false → (first : ℕ → Bool) → ((r : ℕ) → hit r ≡ true → kept r ≡ first r) → (r : ℕ) → hit r ≡ true → (kept r && not (same && nat_eq r rule)) ≡ first r
  left-stay same e missed first h r it = by (kept r) same (nat_eq r rule) refl e ∙ h r it
    where
      by : (c s q : Bool) → nat_eq r rule ≡ q → s ≡ true → (c && not (s && q)) ≡ c
      by c s true p u = absurd (let same_rule = ap hit (eqb-true r rule p) in cc)
      by true true false p u = refl
      by false true false p u = refl
      by c false false p u = absurd (cc)
