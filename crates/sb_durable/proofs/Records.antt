-- Records that are played to a cell, and sessions that are ended behind them.
use Rattle.std.proofs.Common.{◌≡◌, ℕ, ◌≢◌, ◌<◌, ◌≤◌, ◌+◌, Bool, true, false, cond, ◌==◌, List, [], ◌∷◌, ◌++◌, length, map, filter, take, codes, refl, Option, Some, sym, ap, ◌∙◌, subst, inl, inr, arith, append_assoc, append-nil, IsTrue, IsFalse, nat_lt, ltb-true}
use Rattle.std.proofs.lemmas.Bool.{eqb-true, eq-eqb, false_from_ne_true, true≢false}
use Rattle.std.proofs.lemmas.List.{map-append, take_more}
use Rattle.std.proofs.lemmas.List.Elements.{filter-append}
use Rattle.std.proofs.lemmas.List.FromFn.{get_or-range_with_len}
use Rattle.sb_durable.specs.Journal.{Gives}
use Rattle.sb_durable.specs.Records.{Entry as Record, IsEntry, Takes, bytes_of, entry_bytes, entry_of}
use Rattle.sb_durable.specs.declared.record.Record.{Record as TheRecord}
use Rattle.std.specs.Borrow.{Bor}
use Rattle.sb_tenant.specs.Limits.{is_session}
use Rattle.sb_tenant.specs.Trail.{state_after, state_of}
use Rattle.sb_cell.specs.Tenants.{Cell, IsSame, hosts, states, trails}
use Rattle.sb_value.specs.Locks.{sessions}
use Rattle.sb_durable.specs.ReplayedRecords.{EndsSessions, PlaysRecord, PlaysStep}
use Rattle.sb_durable.specs.Recording.{renewal_of}
use Rattle.sb_durable.specs.Replays.{PlaysAll}
use Rattle.sb_durable.specs.Restart.{AreRecords, IsRestarted, Remembers, ended, made_of, own_records, restarted}
use Rattle.sb_durable.proofs.Steps.{after-append, hosts_same, is_of_session, leads, made-append, remembers_more, same_then}

module _ {S : Type 0} (plays : S → Record → S → Type 0) where
  pub plays-append : (a b c : S) (xs ys : List Record) → PlaysAll plays a xs b → PlaysAll plays b ys c → PlaysAll plays a (xs ++ ys) c
  plays-append a b c [] ys same then = subst (λ (s : S). PlaysAll plays s ys c) same then
  plays-append a b c (x ∷ xs) ys (mid, one, first) then = (mid, one, plays-append mid b c xs ys first then)

  pub plays_more : (a b c : S) (xs : List Record) (y : Record) → PlaysAll plays a xs b → plays b y c → PlaysAll plays a (xs ++ y ∷ []) c
  plays_more a b c xs y first then = plays-append a b c xs (y ∷ []) first (c, then, refl)

pub are_front : (xs ys : List Record) → AreRecords (xs ++ ys) → AreRecords xs
are_front [] ys are = tt
are_front (x ∷ xs) ys are = (are.0, are_front xs ys are.1)

pub are_back : (xs ys : List Record) → AreRecords (xs ++ ys) → AreRecords ys
are_back [] ys are = are
are_back (x ∷ xs) ys are = are_back xs ys are.1

-- ---- bytes of records

-- what the first record is, and where the others are
pub found : (batch : List ℕ) (back : List Record) (r : Option (TheRecord × Bor (List ℕ))) → AreRecords back → batch ≡ bytes_of back → (batch ≡ [] → ⊥) → ((entry : Record) (rest : List ℕ) → IsEntry entry → batch ≡ entry_bytes entry ++ rest → Takes r entry rest)
    → (f : TheRecord × Bor (List ℕ)) → r ≡ Some f → (later : List Record) × (back ≡ entry_of f.0 ∷ later) × AreRecords later × (f.1.now ≡ bytes_of later)
found batch [] r are is some only f got = absurd (some is)
found batch (b ∷ bs) r are is some only f got =
    let takes : Takes (Some f) b (bytes_of bs) = subst (λ x. Takes x b (bytes_of bs)) got (only b (bytes_of bs) are.0 is) in
    (bs, ap (λ (e : Record). e ∷ bs) (sym takes.0), are.1, takes.1)

pub gives : (at : ℕ → List Record → Type 0) (entries : List Record) (bytes : List ℕ) (next is : Option ℕ) → next ≡ is → Gives at entries bytes next → Gives at entries bytes is
gives at entries bytes next is same given = subst (λ (n : Option ℕ). Gives at entries bytes n) same given

pub empty_by : (l : List ℕ) → (length l == 0) ≡ true → l ≡ []
empty_by [] is = refl
empty_by (b ∷ l) is = let zero_long = eqb-true (length (b ∷ l)) 0 is in absurd (omega (arith, zero_long))

pub none_left : (back : List Record) → bytes_of back ≡ [] → back ≡ []
none_left [] is = refl
none_left (b ∷ bs) is = absurd (omega (arith, ap length is))

-- ---- a cell

-- nothing is recorded of what is new
pub remembers_new : (cell : Cell) → ((t : ℕ) → trails cell t ≡ []) → Remembers cell []
remembers_new cell new t hosted = ap (state_of t cell.bound) (sym (new t))

remembers_step : (old new : Cell) (r : Record) (done : List Record) → PlaysStep old r new → Remembers old done → Remembers new (done ++ r ∷ [])
remembers_step old new r done (same, given, answers, is) remembers =
    subst (λ (rs : List Record). Remembers new (done ++ rs)) is (remembers_more old new _ given done remembers same answers)

-- a renewal is no line of any tenant
no_line : (u t : ℕ) → own_records u (renewal_of t ∷ []) ≡ []
no_line u t = by (u == t) refl
  where
    by : (b : Bool) → (u == t) ≡ b → own_records u (renewal_of t ∷ []) ≡ []
    by true is = rw is refl
    by false is = rw is refl

remembers_renewal : (cell : Cell) (t : ℕ) (done : List Record) → Remembers cell done → Remembers cell (done ++ renewal_of t ∷ [])
remembers_renewal cell t done remembers u hosted =
    made-append cell.bound u done (renewal_of t ∷ []) ∙ ap (state_after u cell.bound (made_of cell.bound u done)) (no_line u t) ∙ remembers u hosted

pub remembers_played : (old new : Cell) (r : Record) (done : List Record) → PlaysRecord old r new → Remembers old done → Remembers new (done ++ r ∷ [])
remembers_played old new r done (inl one) remembers = remembers_step old new r done one remembers
remembers_played old new r done (inr (is, same)) remembers =
    subst (λ (c : Cell). Remembers c (done ++ r ∷ [])) (sym same) (subst (λ (x : Record). Remembers old (done ++ x ∷ [])) (sym is) (remembers_renewal old r.tenant done remembers))

pub remembers_all : (old new : Cell) (records done : List Record) → PlaysAll PlaysRecord old records new → Remembers old done → Remembers new (done ++ records)
remembers_all old new [] done same remembers = subst (λ (c : Cell). Remembers c (done ++ [])) (sym same) (subst (Remembers old) (sym (append-nil done)) remembers)
remembers_all old new (r ∷ records) done (mid, one, rest) remembers =
    subst (Remembers new) (append_assoc done (r ∷ []) records) (remembers_all mid new records (done ++ r ∷ []) rest (remembers_played old mid r done one remembers))

same_played : (old new : Cell) (r : Record) → PlaysRecord old r new → IsSame old new
same_played old new r (inl one) = one.0
same_played old new r (inr (is, same)) = subst (λ (c : Cell). IsSame old c) (sym same) (refl, refl, refl, refl)

pub same_all : (old new : Cell) (records : List Record) → PlaysAll PlaysRecord old records new → IsSame old new
same_all old new [] same = subst (λ (c : Cell). IsSame old c) (sym same) (refl, refl, refl, refl)
same_all old new (r ∷ records) (mid, one, rest) = same_then old mid new (same_played old mid r one) (same_all mid new records rest)

-- ---- sessions that end

abbrev end_of : ℕ → ℕ → Record
end_of t s = record { tenant = t; session = s; line = codes "end" }

-- the ends of these sessions of a tenant were played
abbrev pub EndsThese : ℕ → Cell → List ℕ → Cell → Type 0
EndsThese t old all new =
    IsSame old new × (states new t ≡ state_after t old.bound (states old t) (map (λ s. (s, codes "end")) all)) × ((u : ℕ) → IsFalse (u == t) → states new u ≡ states old u)

pub ends_none : (t : ℕ) (cell : Cell) → EndsThese t cell [] cell
ends_none t cell = ((refl, refl, refl, refl), refl, λ u other. refl)

-- where a record leads
played : (old new : Cell) (r : Record) → PlaysStep old r new → (u : ℕ) → states new u ≡ state_after u old.bound (states old u) (own_records u (r ∷ []))
played old new r (same, given, answers, is) u =
    ap (λ bound. state_of u bound (trails new u)) same.2
    ∙ sym (ap (λ (rs : List Record). state_after u old.bound (states old u) (own_records u rs)) (sym is) ∙ leads old new _ given answers u)

-- one more
pub ends_more : (t : ℕ) (old mid new : Cell) (all : List ℕ) (s : ℕ) → EndsThese t old all mid → PlaysStep mid (end_of t s) new → EndsThese t old (all ++ s ∷ []) new
ends_more t old mid new all s (same, first, others) one = (same_then old mid new same one.0, own, λ u other. apart u other ∙ others u other)
  where
    own_end : own_records t (end_of t s ∷ []) ≡ (s, codes "end") ∷ []
    own_end = by (eq-eqb t t refl) (is_of_session mid new _ one.1 (end_of t s) one.3 one.2)
      where
        by : (t == t) ≡ true → is_session s ≡ true → own_records t (end_of t s ∷ []) ≡ (s, codes "end") ∷ []
        by is of = rw (is, of) refl

    own : states new t ≡ state_after t old.bound (states old t) (map (λ s. (s, codes "end")) (all ++ s ∷ []))
    own =
        played mid new (end_of t s) one t ∙ ap (state_after t mid.bound (states mid t)) own_end
        ∙ (λ i. state_after t (same.2 i) (first i) ((s, codes "end") ∷ []))
        ∙ sym (after-append t old.bound (states old t) (map (λ s. (s, codes "end")) all) ((s, codes "end") ∷ []))
        ∙ ap (state_after t old.bound (states old t)) (sym (map-append (λ s. (s, codes "end")) all (s ∷ [])))

    apart : (u : ℕ) → IsFalse (u == t) → states new u ≡ states mid u
    apart u other = played mid new (end_of t s) one u ∙ ap (state_after u mid.bound (states mid u)) (by other)
      where
        by : (u == t) ≡ false → own_records u (end_of t s ∷ []) ≡ []
        by is = rw is refl

-- ---- the sessions of a tenant, one after another

take_session : (k : ℕ) → k < 8 → take (k + 1) sessions ≡ take k sessions ++ k ∷ []
take_session k below =
    take_more sessions k 0 below
    ∙ ap (λ (s : ℕ). take k sessions ++ s ∷ []) (get_or-range_with_len 0 8 k 0 below ∙ (let p : 0 + k ≡ k = omega arith in p))

-- this one is taken where it is such
pub session_taken : (p : ℕ → Bool) (k : ℕ) → k < 8 → p k ≡ true → filter p (take (k + 1) sessions) ≡ filter p (take k sessions) ++ k ∷ []
session_taken p k below is = ap (filter p) (take_session k below) ∙ filter-append p (take k sessions) (k ∷ []) ∙ (λ i. filter p (take k sessions) ++ cond (is i) (k ∷ []) [])

pub session_passed : (p : ℕ → Bool) (k : ℕ) → k < 8 → p k ≡ false → filter p (take (k + 1) sessions) ≡ filter p (take k sessions)
session_passed p k below is =
    ap (filter p) (take_session k below) ∙ filter-append p (take k sessions) (k ∷ []) ∙ (λ i. filter p (take k sessions) ++ cond (is i) (k ∷ []) []) ∙ append-nil (filter p (take k sessions))

-- ---- tenants, one after another

apart_from : (u t : ℕ) → t < u → (u == t) ≡ false
apart_from u t above = false_from_ne_true (u == t) (λ e. let same = eqb-true u t e in absurd (omega (arith, above, same)))

-- the tenants below this number are as a restart leaves them, and the others as the records make them
pub record Midway (old : Cell) (records : List Record) (tenant : ℕ) (cell : Cell) : Type 0 where
  pub same : IsSame old cell
  pub done : (u : ℕ) → u < tenant → IsTrue (hosts old u) → states cell u ≡ restarted old.bound u records
  pub due : (u : ℕ) → tenant ≤ u → IsTrue (hosts old u) → states cell u ≡ made_of old.bound u records

pub midway_first : (old cell : Cell) (records : List Record) → IsSame old cell → Remembers cell records → Midway old records 0 cell
midway_first old cell records same remembers = record {
  same = same;
  done = λ u below. absurd (omega (arith, below));
  due = λ u above hosted.
      sym (subst (λ bound. made_of bound u records ≡ states cell u) same.2 (remembers u (subst (λ b. IsTrue b) (sym (hosts_same old cell same u)) hosted)));
}

pub midway_then : (old mid new : Cell) (records : List Record) (tenant : ℕ) → Midway old records tenant mid → EndsSessions tenant mid new → Midway old records (tenant + 1) new
midway_then old mid new records tenant m (is, others, same) = record {
  same = same_then old mid new m.same same;
  done = λ u below hosted. by (u == tenant) u refl below hosted;
  due = λ u above hosted. others u (apart_from u tenant (omega (arith, above))) ∙ m.due u (omega (arith, above)) hosted;
}
  where
    here : IsTrue (hosts old tenant) → states new tenant ≡ restarted old.bound tenant records
    here hosted = is ∙ (λ i. ended (m.same.2 i) tenant (m.due tenant (omega arith) hosted i))

    by : (b : Bool) (u : ℕ) → (u == tenant) ≡ b → u < tenant + 1 → IsTrue (hosts old u) → states new u ≡ restarted old.bound u records
    by true u is below hosted = subst (λ n. states new n ≡ restarted old.bound n records) (sym (eqb-true u tenant is)) (here (subst (λ n. IsTrue (hosts old n)) (eqb-true u tenant is) hosted))
    by false u is below hosted = others u is ∙ m.done u (omega (arith, below, apart u is)) hosted
      where
        apart : (u : ℕ) → (u == tenant) ≡ false → u ≢ tenant
        apart u is same = true≢false (sym (eq-eqb u tenant same) ∙ is)

pub midway_last : (old cell : Cell) (records : List Record) (tenant tenants : ℕ) → tenants ≤ tenant → ((t : ℕ) → hosts old t ≡ nat_lt t tenants) → Midway old records tenant cell → IsRestarted cell records
midway_last old cell records tenant tenants all hosted m t is =
    let low : t < tenants = ltb-true t tenants (sym (hosted t) ∙ here) in
    subst (λ bound. states cell t ≡ restarted bound t records) (sym m.same.2) (m.done t (omega (arith, low, all)) here)
  where
    here : IsTrue (hosts old t)
    here = sym (hosts_same old cell m.same t) ∙ is
