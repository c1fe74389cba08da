-- What a session's requests do to the locks: they stay exclusive, and those of the others stay.
use Rattle.std.proofs.Math.Bool.{or-false}
use Rattle.std.proofs.Common.{◌≡◌, ◌∙◌, ℕ, Bool, true, false, not, ◌&&◌, ◌||◌, cond, nat_eq, List, [], ◌∷◌, Some, None, refl, sym, ap, true≢false, eqb-true, IsTrue}
use Rattle.std.specs.Prelude.{find, option_map}
use Rattle.std.specs.List.{list_any}
use Rattle.std.proofs.lemmas.Option.{none-some}
use Rattle.std.proofs.lemmas.Bool.{eq-eqb, false≢true, and_parts, or_parts}
use Rattle.sb_value.specs.declared.lock.LockMode.{LockMode}
use Rattle.sb_value.specs.declared.lock.LockMode.TheVariants.{Read, Write}
use Rattle.sb_value.specs.Locks.{Locks, same_mode, conflicts, first_conflict, with_locks, released}
use Rattle.sb_process.specs.Process.{process}
use Rattle.sb_process.specs.Setting.{Setting, Progress}
use Rattle.sb_tenant.specs.Limits.{is_session}
use Rattle.sb_tenant.specs.Represents.{AreExclusive}
use Rattle.sb_tenant.proofs.Keeping.{IsKept, process-keeps, Any, any-rules}
use Rattle.sb_tenant.proofs.Sharing.{each-session}

-- ---- exclusive locks

same_as : (one other : LockMode) → same_mode one other ≡ true → one ≡ other
same_as Read Read e = refl
same_as Read Write e = absurd (false≢true e)
same_as Write Read e = absurd (false≢true e)
same_as Write Write e = refl

-- no other session holds what doesn't conflict
free-write : (locks : Locks) (s t : ℕ) → conflicts locks s t Write ≡ false → (o : ℕ) (m : LockMode) → IsTrue (is_session o) → nat_eq o s ≡ false → locks o t m ≡ false
free-write locks s t e o m is other = by m
  where
    none : (locks o t Write || locks o t Read) ≡ false
    none = ap (λ (b : Bool). not b && (locks o t Write || locks o t Read)) (sym other) ∙ each-session (λ x. not (nat_eq x s) && (locks x t Write || locks x t Read)) o is e

    by : (m : LockMode) → locks o t m ≡ false
    by Read = (or_parts (locks o t Write) (locks o t Read) none).1
    by Write = (or_parts (locks o t Write) (locks o t Read) none).0

free-read : (locks : Locks) (s t : ℕ) (m : LockMode) → conflicts locks s t m ≡ false → (o : ℕ) → IsTrue (is_session o) → nat_eq o s ≡ false → locks o t Write ≡ false
free-read locks s t Read e o is other = ap (λ (b : Bool). not b && locks o t Write) (sym other) ∙ each-session (λ x. not (nat_eq x s) && locks x t Write) o is e
free-read locks s t Write e o is other = free-write locks s t e o Write is other

-- what is granted doesn't conflict
granted : (locks : Locks) (s : ℕ) (request : List (ℕ × LockMode)) → first_conflict locks s request ≡ None → (t : ℕ) (m : LockMode) → list_any (λ r. nat_eq r.0 t && same_mode r.1 m) request ≡ true → conflicts locks s t m ≡ false
granted locks s [] e t m h = absurd (false≢true h)
granted locks s (r ∷ request) e t m h = by (conflicts locks s r.0 r.1) refl e (granted locks s request)
  where
    is-it : (b : Bool) → (nat_eq r.0 t && same_mode r.1 m) ≡ b → (b || list_any (λ x. nat_eq x.0 t && same_mode x.1 m) request) ≡ true → conflicts locks s r.0 r.1 ≡ false →
        (list_any (λ x. nat_eq x.0 t && same_mode x.1 m) request ≡ true → conflicts locks s t m ≡ false) → conflicts locks s t m ≡ false
    is-it true p q free rest = (λ i. conflicts locks s (sym (eqb-true r.0 t (and_parts (nat_eq r.0 t) (same_mode r.1 m) p).0) i) (sym (same_as r.1 m (and_parts (nat_eq r.0 t) (same_mode r.1 m) p).1) i)) ∙ free
    is-it false p q free rest = rest q

    by : (b : Bool) → conflicts locks s r.0 r.1 ≡ b → option_map (λ (x : ℕ × LockMode). x.0) (cond b (Some r) (find (λ (x : ℕ × LockMode). conflicts locks s x.0 x.1) request)) ≡ None →
        (first_conflict locks s request ≡ None → (t : ℕ) (m : LockMode) → list_any (λ x. nat_eq x.0 t && same_mode x.1 m) request ≡ true → conflicts locks s t m ≡ false) → conflicts locks s t m ≡ false
    by true p q rest = absurd (none-some r.0 (sym q))
    by false p q rest = is-it (nat_eq r.0 t && same_mode r.1 m) refl h p (rest q t m)

-- ---- what a session takes

abbrev is_asked : List (ℕ × LockMode) → ℕ → LockMode → Bool
is_asked request t m = list_any (λ r. nat_eq r.0 t && same_mode r.1 m) request

-- the other sessions' locks stay, and all are exclusive
pub record Taken (session : ℕ) (old new : Locks) : Type 0 where
  pub others : (o t : ℕ) (m : LockMode) → nat_eq o session ≡ false → new o t m ≡ old o t m
  pub exclusive : AreExclusive new

pub taken-none : (s : ℕ) (locks : Locks) → AreExclusive locks → Taken s locks locks
taken-none s locks e = record { others = λ o t m other. refl; exclusive = e }

pub taken-request : (s : ℕ) (first old : Locks) (request : List (ℕ × LockMode)) → first_conflict old s request ≡ None → Taken s first old → Taken s first (with_locks old s request)
taken-request s first old request none k = record { others = λ o t m other. same o t m other ∙ k.others o t m other; exclusive = λ p o t m ip io differ h. by (nat_eq p s) p refl (nat_eq o s) o refl t m ip io differ h }
  where
    same : (o t : ℕ) (m : LockMode) → nat_eq o s ≡ false → with_locks old s request o t m ≡ old o t m
    same o t m other = ap (λ (b : Bool). old o t m || (b && is_asked request t m)) other ∙ or-false (old o t m)

    -- the session's own locks: held before, or granted
    own : (p t : ℕ) (m : LockMode) → nat_eq p s ≡ true → (a b : Bool) → old p t m ≡ a → is_asked request t m ≡ b → with_locks old s request p t m ≡ (a || b)
    own p t m is a b e f = λ i. e i || (is i && f i)

    by : (a : Bool) (p : ℕ) → nat_eq p s ≡ a → (b : Bool) (o : ℕ) → nat_eq o s ≡ b → (t : ℕ) (m : LockMode) → IsTrue (is_session p) → IsTrue (is_session o) → nat_eq p o ≡ false →
        with_locks old s request p t Write ≡ true → with_locks old s request o t m ≡ false
    by true p e true o f t m ip io differ h = absurd (true≢false (sym (eq-eqb p o (eqb-true p s e ∙ sym (eqb-true o s f))) ∙ differ))
    by true p e false o f t m ip io differ h = same o t m f ∙ held-or-granted (old p t Write) refl (is_asked request t Write) refl
      where
        held-or-granted : (a : Bool) → old p t Write ≡ a → (b : Bool) → is_asked request t Write ≡ b → old o t m ≡ false
        held-or-granted true x b y = k.exclusive p o t m ip io differ x
        held-or-granted false x true y = free-write old s t (granted old s request none t Write y) o m io f
        held-or-granted false x false y = absurd (false≢true (sym (own p t Write e false false x y) ∙ h))
    by false p e true o f t m ip io differ h = own o t m f false false (k.exclusive p o t m ip io differ held) (unasked (is_asked request t m) refl)
      where
        held : old p t Write ≡ true
        held = sym (same p t Write e) ∙ h

        unasked : (b : Bool) → is_asked request t m ≡ b → b ≡ false
        unasked false y = refl
        unasked true y = absurd (true≢false (sym held ∙ free-read old s t m (granted old s request none t m y) p ip e))
    by false p e false o f t m ip io differ h = same o t m f ∙ k.exclusive p o t m ip io differ (sym (same p t Write e) ∙ h)

pub taken-released : (s : ℕ) (old : Locks) → AreExclusive old → Taken s old (released old s)
taken-released s old k = record {
  others = λ o t m other. ap (λ (b : Bool). not b && old o t m) other;
  exclusive = λ p o t m ip io differ h. none (not (nat_eq o s)) (old o t m) (k p o t m ip io differ (and_parts (not (nat_eq p s)) (old p t Write) h).1);
}
  where
    none : (a b : Bool) → b ≡ false → (a && b) ≡ false
    none true b e = e
    none false b e = refl

-- ---- what processing takes

taken-kept : (setting : Setting) (first : Locks) → IsKept setting Any (λ p. Taken setting.who.session first p.locks)
taken-kept setting first = record {
  mark = λ rule p h. h;
  request = λ list p e h. taken-request setting.who.session first p.locks list e h;
  change = λ tables statement p changes good asked h e. h;
  left = λ left p h. h;
}

pub process-takes : (setting : Setting) (first : Locks) (n : ℕ) (eligible : ℕ → Bool) (p : Progress) → Taken setting.who.session first p.locks → Taken setting.who.session first (process n setting eligible p).progress.locks
process-takes setting first = process-keeps setting Any (λ p. Taken setting.who.session first p.locks) (taken-kept setting first) (any-rules setting.rules)
