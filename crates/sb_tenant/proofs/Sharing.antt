-- The changes of all sessions, of which each table is changed by one at most.
use Rattle.std.proofs.Common.{◌≡◌, ◌∙◌, ℕ, zero, suc, ◌<◌, Bool, true, false, not, ◌&&◌, ◌||◌, cond, nat_eq, nat_lt, List, [], ◌∷◌, ◌++◌, filter, refl, sym, ap, eqb-true, true≢false, append-nil, arith, IsTrue}
use Rattle.std.specs.List.{flat_map, list_any}
use Rattle.std.proofs.lemmas.Bool.{ltb-true, eq-eqb, or_parts, false≢true}
use Rattle.std.proofs.lemmas.List.Elements.{filter-append}
use Rattle.sb_value.specs.declared.change.Change.{Change}
use Rattle.sb_value.specs.declared.lock.LockMode.TheVariants.{Write}
use Rattle.sb_value.specs.Locks.{Locks, sessions}
use Rattle.sb_process.specs.Represents.{AreLocked, is_written}
use Rattle.sb_process.specs.Sharing.{changes_to, ChangeTheSame, AreElsewhere}
use Rattle.sb_tenant.specs.Limits.{is_session}
use Rattle.sb_tenant.specs.Represents.{AreExclusive}

-- ---- sessions

-- all but one of them
abbrev pub but : ℕ → List ℕ → List ℕ
but s ss = filter (λ o. not (nat_eq o s)) ss

abbrev pub AreSessions : List ℕ → Type 0
AreSessions [] = Unit {0}
AreSessions (o ∷ ss) = IsTrue (is_session o) × AreSessions ss

pub are-sessions : AreSessions sessions
are-sessions = (refl, (refl, (refl, (refl, (refl, (refl, (refl, (refl, tt))))))))

-- it stands once among them
abbrev pub once : ℕ → List ℕ → Bool
once s [] = false
once s (o ∷ ss) = cond (nat_eq o s) (not (list_any (λ x. nat_eq x s) ss)) (once s ss)

pub is-once : (s : ℕ) → IsTrue (is_session s) → once s sessions ≡ true
is-once zero h = refl
is-once (suc zero) h = refl
is-once (suc (suc zero)) h = refl
is-once (suc (suc (suc zero))) h = refl
is-once (suc (suc (suc (suc zero)))) h = refl
is-once (suc (suc (suc (suc (suc zero))))) h = refl
is-once (suc (suc (suc (suc (suc (suc zero)))))) h = refl
is-once (suc (suc (suc (suc (suc (suc (suc zero))))))) h = refl
is-once (suc (suc (suc (suc (suc (suc (suc (suc n)))))))) h =
    let below : suc (suc (suc (suc (suc (suc (suc (suc n))))))) < 8 = ltb-true (suc (suc (suc (suc (suc (suc (suc (suc n)))))))) 8 h in absurd (omega arith)

each-once : (p : ℕ → Bool) (s : ℕ) (ss : List ℕ) → once s ss ≡ true → list_any p ss ≡ false → p s ≡ false
each-once p s [] e h = absurd (false≢true e)
each-once p s (o ∷ ss) e h = by (nat_eq o s) refl e (λ q. each-once p s ss q (or_parts (p o) (list_any p ss) h).1)
  where
    by : (b : Bool) → nat_eq o s ≡ b → cond b (not (list_any (λ x. nat_eq x s) ss)) (once s ss) ≡ true → (once s ss ≡ true → p s ≡ false) → p s ≡ false
    by true q e rest = ap p (sym (eqb-true o s q)) ∙ (or_parts (p o) (list_any p ss) h).0
    by false q e rest = rest e

-- a test that no session passes
pub each-session : (p : ℕ → Bool) (s : ℕ) → IsTrue (is_session s) → list_any p sessions ≡ false → p s ≡ false
each-session p s is h = each-once p s sessions (is-once s is) h

-- ---- lists of all sessions, where some have none

module _ {X : Type 0} (g : ℕ → List X) (s : ℕ) where
  -- one session has none
  pub without : g s ≡ [] → (ss : List ℕ) → flat_map g ss ≡ flat_map g (but s ss)
  without e [] = refl
  without e (o ∷ ss) = by (nat_eq o s) refl (without e ss)
    where
      by : (b : Bool) → nat_eq o s ≡ b → flat_map g ss ≡ flat_map g (but s ss) → g o ++ flat_map g ss ≡ flat_map g (cond (not b) (o ∷ but s ss) (but s ss))
      by true p rest = ap (λ (xs : List X). xs ++ flat_map g ss) (ap g (eqb-true o s p) ∙ e) ∙ rest
      by false p rest = ap (λ (xs : List X). g o ++ xs) rest

  module _ (none : (o : ℕ) → IsTrue (is_session o) → nat_eq o s ≡ false → g o ≡ []) where
    -- the others have none
    pub none-but : (ss : List ℕ) → AreSessions ss → flat_map g (but s ss) ≡ []
    none-but [] are = refl
    none-but (o ∷ ss) are = by (nat_eq o s) refl (none-but ss are.1)
      where
        by : (b : Bool) → nat_eq o s ≡ b → flat_map g (but s ss) ≡ [] → flat_map g (cond (not b) (o ∷ but s ss) (but s ss)) ≡ []
        by true p rest = rest
        by false p rest = ap (λ (xs : List X). xs ++ flat_map g (but s ss)) (none o are.0 p) ∙ rest

    no-more : (ss : List ℕ) → AreSessions ss → list_any (λ x. nat_eq x s) ss ≡ false → flat_map g ss ≡ []
    no-more [] are e = refl
    no-more (o ∷ ss) are e = by (nat_eq o s) refl e (no-more ss are.1)
      where
        by : (b : Bool) → nat_eq o s ≡ b → (b || list_any (λ x. nat_eq x s) ss) ≡ false → (list_any (λ x. nat_eq x s) ss ≡ false → flat_map g ss ≡ []) → g o ++ flat_map g ss ≡ []
        by true p q rest = absurd (true≢false q)
        by false p q rest = ap (λ (xs : List X). xs ++ flat_map g ss) (none o are.0 p) ∙ rest q

    pub only : (ss : List ℕ) → AreSessions ss → once s ss ≡ true → flat_map g ss ≡ g s
    only [] are e = absurd (false≢true e)
    only (o ∷ ss) are e = by (nat_eq o s) refl e (only ss are.1)
      where
        more : (b : Bool) → not b ≡ true → b ≡ false
        more true q = absurd (false≢true q)
        more false q = refl

        by : (b : Bool) → nat_eq o s ≡ b → cond b (not (list_any (λ x. nat_eq x s) ss)) (once s ss) ≡ true → (once s ss ≡ true → flat_map g ss ≡ g s) → g o ++ flat_map g ss ≡ g s
        by true p q rest =
            ap (λ (xs : List X). g o ++ xs) (no-more ss are.1 (more (list_any (λ x. nat_eq x s) ss) q)) ∙ append-nil (g o) ∙ ap g (eqb-true o s p)
        by false p q rest = ap (λ (xs : List X). xs ++ flat_map g ss) (none o are.0 p) ∙ rest q

-- one session's lists don't count where it is left out
pub same-but : {X : Type 0} (f g : ℕ → List X) (s : ℕ) → ((o : ℕ) → nat_eq o s ≡ false → f o ≡ g o) → (ss : List ℕ) → flat_map f (but s ss) ≡ flat_map g (but s ss)
same-but f g s e [] = refl
same-but f g s e (o ∷ ss) = by (nat_eq o s) refl (same-but f g s e ss)
  where
    by : (b : Bool) → nat_eq o s ≡ b → flat_map f (but s ss) ≡ flat_map g (but s ss) → flat_map f (cond (not b) (o ∷ but s ss) (but s ss)) ≡ flat_map g (cond (not b) (o ∷ but s ss) (but s ss))
    by true p rest = rest
    by false p rest = λ i. e o p i ++ rest i

-- ---- one writer of each table

changes-flat : (t : ℕ) (f : ℕ → List Change) (ss : List ℕ) → changes_to t (flat_map f ss) ≡ flat_map (λ o. changes_to t (f o)) ss
changes-flat t f [] = refl
changes-flat t f (o ∷ ss) = filter-append (λ (c : Change). nat_eq c.table t) (f o) (flat_map f ss) ∙ ap (λ (cs : List Change). changes_to t (f o) ++ cs) (changes-flat t f ss)

-- a session that hasn't locked a table hasn't changed it
not-locked : (locks : Locks) (s t : ℕ) (cs : List Change) → AreLocked locks s cs → locks s t Write ≡ false → changes_to t cs ≡ []
not-locked locks s t [] h e = refl
not-locked locks s t (c ∷ cs) h e = by (nat_eq c.table t) refl (not-locked locks s t cs h.1 e)
  where
    by : (b : Bool) → nat_eq c.table t ≡ b → changes_to t cs ≡ [] → cond b (c ∷ changes_to t cs) (changes_to t cs) ≡ []
    by true p rest = absurd (true≢false (sym h.0 ∙ ap (λ (n : ℕ). locks s n Write) (eqb-true c.table t p) ∙ e))
    by false p rest = rest

module _ (locks : Locks) (f : ℕ → List Change) (exclusive : AreExclusive locks) (locked : (o : ℕ) → IsTrue (is_session o) → AreLocked locks o (f o)) (s : ℕ) (is : IsTrue (is_session s)) where
  -- where the session has locked a table, no other has changed it
  none-else : (t : ℕ) → locks s t Write ≡ true → (o : ℕ) → IsTrue (is_session o) → nat_eq o s ≡ false → changes_to t (f o) ≡ []
  none-else t e o has other = not-locked locks o t (f o) (locked o has) (exclusive s o t Write is has (swap other) e)
    where
      swap : nat_eq o s ≡ false → nat_eq s o ≡ false
      swap h = by (nat_eq s o) refl
        where
          by : (b : Bool) → nat_eq s o ≡ b → b ≡ false
          by true p = sym (eq-eqb o s (sym (eqb-true s o p))) ∙ h
          by false p = refl

  -- the session's changes may come last
  pub comes-last : ChangeTheSame (flat_map f sessions) (flat_map f (but s sessions) ++ f s)
  comes-last t = changes-flat t f sessions ∙ by (locks s t Write) refl ∙ sym (filter-append (λ (c : Change). nat_eq c.table t) (flat_map f (but s sessions)) (f s) ∙ ap (λ (cs : List Change). cs ++ changes_to t (f s)) (changes-flat t f (but s sessions)))
    where
      by : (b : Bool) → locks s t Write ≡ b → flat_map (λ o. changes_to t (f o)) sessions ≡ flat_map (λ o. changes_to t (f o)) (but s sessions) ++ changes_to t (f s)
      by true e =
          only (λ o. changes_to t (f o)) s (none-else t e) sessions are-sessions (is-once s is)
          ∙ sym (ap (λ (cs : List Change). cs ++ changes_to t (f s)) (none-but (λ o. changes_to t (f o)) s (none-else t e) sessions are-sessions))
      by false e =
          let none = not-locked locks s t (f s) (locked s is) e in
          without (λ o. changes_to t (f o)) s none sessions
          ∙ sym (ap (λ (cs : List Change). flat_map (λ o. changes_to t (f o)) (but s sessions) ++ cs) none ∙ append-nil (flat_map (λ o. changes_to t (f o)) (but s sessions)))

  -- or first
  pub comes-first : ChangeTheSame (flat_map f sessions) (f s ++ flat_map f (but s sessions))
  comes-first t = changes-flat t f sessions ∙ by (locks s t Write) refl ∙ sym (filter-append (λ (c : Change). nat_eq c.table t) (f s) (flat_map f (but s sessions)) ∙ ap (λ (cs : List Change). changes_to t (f s) ++ cs) (changes-flat t f (but s sessions)))
    where
      by : (b : Bool) → locks s t Write ≡ b → flat_map (λ o. changes_to t (f o)) sessions ≡ changes_to t (f s) ++ flat_map (λ o. changes_to t (f o)) (but s sessions)
      by true e =
          only (λ o. changes_to t (f o)) s (none-else t e) sessions are-sessions (is-once s is)
          ∙ sym (ap (λ (cs : List Change). changes_to t (f s) ++ cs) (none-but (λ o. changes_to t (f o)) s (none-else t e) sessions are-sessions) ∙ append-nil (changes_to t (f s)))
      by false e =
          let none = not-locked locks s t (f s) (locked s is) e in
          without (λ o. changes_to t (f o)) s none sessions
          ∙ sym (ap (λ (cs : List Change). cs ++ flat_map (λ o. changes_to t (f o)) (but s sessions)) none)

  -- the other sessions haven't changed what this one has locked
  elsewhere-on : (one other : List Change) → AreElsewhere (is_written locks s) one → AreElsewhere (is_written locks s) other → AreElsewhere (is_written locks s) (one ++ other)
  elsewhere-on [] other a b = b
  elsewhere-on (c ∷ one) other a b = (a.0, elsewhere-on one other a.1 b)

  and-none : (a b : Bool) → b ≡ false → (a && b) ≡ false
  and-none true b e = e
  and-none false b e = refl

  elsewhere-one : (o : ℕ) → IsTrue (is_session o) → nat_eq o s ≡ false → (cs : List Change) → AreLocked locks o cs → AreElsewhere (is_written locks s) cs
  elsewhere-one o has other [] h = tt
  elsewhere-one o has other (c ∷ cs) h = (and-none (nat_lt c.table 16) (locks s c.table Write) (exclusive o s c.table Write has is other h.0), elsewhere-one o has other cs h.1)

  elsewhere-all : (ss : List ℕ) → AreSessions ss → AreElsewhere (is_written locks s) (flat_map f (but s ss))
  elsewhere-all [] are = tt
  elsewhere-all (o ∷ ss) are = by (nat_eq o s) refl (elsewhere-all ss are.1)
    where
      by : (b : Bool) → nat_eq o s ≡ b → AreElsewhere (is_written locks s) (flat_map f (but s ss)) → AreElsewhere (is_written locks s) (flat_map f (cond (not b) (o ∷ but s ss) (but s ss)))
      by true p rest = rest
      by false p rest = elsewhere-on (f o) (flat_map f (but s ss)) (elsewhere-one o are.0 p (f o) (locked o are.0)) rest

  pub elsewhere : AreElsewhere (is_written locks s) (flat_map f (but s sessions))
  elsewhere = elsewhere-all sessions are-sessions
