-- Times as marks.
use Rattle.std.proofs.Common.{◌≡◌, ◌∙◌, ℕ, zero, suc, ◌+◌, ◌<◌, ◌≤◌, Bool, true, false, ◌&&◌, cond, nat_le, nat_lt, nat_eq, List, [], ◌∷◌, filter, drop, length, lt-ltb, refl, sym, ap, subst, arith, eq-eqb}
use Rattle.std.proofs.lemmas.Bool.{leb-true, le-ltb}
use Rattle.std.proofs.lemmas.List.{length-map}
use Rattle.sb_value.specs.declared.id.Who.{Who}
use Rattle.sb_value.specs.declared.change.Change.{Change}
use Rattle.sb_value.specs.NetEffect.{is_triggered}
use Rattle.sb_catalog.specs.declared.rule.Rule.{Rule}
use Rattle.sb_tables.specs.Held.{Held}
use Rattle.sb_rawlog.specs.Changes.{is_by}
use Rattle.sb_rawlog.specs.Records.{Record, Rising, before}
use Rattle.sb_rawlog.specs.Sessions.{records_by, changes, changes_by, changes_between, mark_at}
use Rattle.sb_process.specs.declared.database.Database.{Database}
use Rattle.sb_process.specs.Represents.{Represents, AreCandidates, AreUntriggered, who_in}
use Rattle.sb_process.specs.Setting.{Setting, Progress, marked}
use Rattle.sb_process.specs.Transactions.{Kept, mark_of, tested_of, is_candidate_of}

none_of : (time : ℕ) (rs : List Record) → changes rs ≡ [] → zero ≡ length (before time rs)
unfolding before
none_of time [] e = refl
none_of time (r ∷ rs) e = absurd (cc)

-- of no changes none is older
pub none_before : (who : Who) (time : ℕ) (rs : List Record) → changes_by who rs ≡ [] → zero ≡ mark_at who time rs
none_before who time rs e = none_of time (records_by who rs) e

-- ---- a mark at the end

low-below : (low : ℕ) (rs : List Record) (clock : ℕ) → Rising low rs clock → low ≤ clock
low-below low [] clock h = h
low-below low (r ∷ rs) clock h = let first = h.0 in let rest = low-below (r.0 + 1) rs clock h.1 in omega (arith, first, rest)

-- every time is before the clock
all-before : (who : Who) (low : ℕ) (rs : List Record) (clock : ℕ) → Rising low rs clock → length (records_by who rs) ≡ length (before clock (records_by who rs))
unfolding before records_by
all-before who low [] clock h = refl
all-before who low (r ∷ rs) clock h = by (is_by who r.1) (all-before who (r.0 + 1) rs clock h.1)
  where
    early : nat_lt r.0 clock ≡ true
    early = let rest = low-below (r.0 + 1) rs clock h.1 in let l : r.0 < clock = omega (arith, rest) in lt-ltb r.0 clock l

    by : (b : Bool) → length (records_by who rs) ≡ length (before clock (records_by who rs)) → length (cond b (r ∷ records_by who rs) (records_by who rs)) ≡ length (before clock (cond b (r ∷ records_by who rs) (records_by who rs)))
    by true e = ap suc e ∙ ap (λ (b : Bool). length (cond b (r ∷ before clock (records_by who rs)) (before clock (records_by who rs)))) (sym early)
    by false e = e

pub end-mark : (who : Who) (rs : List Record) (clock : ℕ) → Rising 0 rs clock → length (changes_by who rs) ≡ mark_at who clock rs
end-mark who rs clock h = length-map (records_by who rs) (λ (r : Record). r.1) ∙ all-before who 0 rs clock h

pub drop-all : (cs : List Change) → drop (length cs) cs ≡ []
drop-all [] = refl
drop-all (c ∷ cs) = drop-all cs

-- between a time and itself there is nothing
pub between-itself : (who : Who) (time : ℕ) (rs : List Record) → changes_between who time time rs ≡ []
between-itself who time rs = ap changes (none (records_by who rs))
  where
    never : (t : ℕ) (b : Bool) → nat_le time t ≡ b → (b && nat_lt t time) ≡ false
    never t true e = le-ltb t time (leb-true time t e)
    never t false e = refl

    none : (l : List Record) → filter (λ (r : Record). nat_le time r.0 && nat_lt r.0 time) l ≡ []
    none [] = refl
    none (r ∷ l) = ap (λ (b : Bool). cond b (r ∷ filter (λ (r : Record). nat_le time r.0 && nat_lt r.0 time) l) (filter (λ (r : Record). nat_le time r.0 && nat_lt r.0 time) l)) (never r.0 (nat_le time r.0) refl) ∙ none l

module _ (origin : List Held) (d : Database) (session : ℕ) (records : List Record) (clock : ℕ) (setting : Setting) (progress : Progress) (r : Represents origin d session records clock setting progress)
    (rising : Rising 0 records clock) (rule : Rule) (new : Kept) (marks : (s x : ℕ) → mark_of new s x ≡ cond ((nat_eq s session) && (nat_eq x rule.id)) clock (mark_of d.transactions s x))
    (tested : (s x : ℕ) → tested_of new s x ≡ cond ((nat_eq s session) && (nat_eq x rule.id)) clock (tested_of d.transactions s x)) (candidates : (s x : ℕ) → is_candidate_of new s x ≡ is_candidate_of d.transactions s x) where
  -- the session's own mark of a rule
  own-mark : (x : ℕ) → mark_of new session x ≡ cond (nat_eq x rule.id) clock (mark_of d.transactions session x)
  own-mark x = marks session x ∙ ap (λ (b : Bool). cond (b && (nat_eq x rule.id)) clock (mark_of d.transactions session x)) (eq-eqb session session refl)

  own-test : (x : ℕ) → tested_of new session x ≡ cond (nat_eq x rule.id) clock (tested_of d.transactions session x)
  own-test x = tested session x ∙ ap (λ (b : Bool). cond (b && (nat_eq x rule.id)) clock (tested_of d.transactions session x)) (eq-eqb session session refl)

  -- the rule has been tested for nothing yet, and the others as before
  still-tested : (rules : List Rule) → AreUntriggered (who_in d session) d.transactions records rules → AreUntriggered (who_in d session) new records rules
  still-tested [] h = tt
  still-tested (x ∷ rules) h = (
    ap (is_triggered x.triggers x.table) (λ i. changes_between (who_in d session) (own-mark x.id i) (own-test x.id i) records) ∙ by (nat_eq x.id rule.id),
    still-tested rules h.1,
  )
    where
      by : (b : Bool) → is_triggered x.triggers x.table (changes_between (who_in d session) (cond b clock (mark_of d.transactions session x.id)) (cond b clock (tested_of d.transactions session x.id)) records) ≡ false
      by true = ap (is_triggered x.triggers x.table) (between-itself (who_in d session) clock records)
      by false = h.0

  -- nothing triggers the rule any more, and the others are triggered as before
  still : (rules : List Rule) → AreCandidates d.transactions session progress rules → AreCandidates new session (marked rule progress) rules
  still [] h = tt
  still (x ∷ rules) h = (λ active t. candidates session x.id ∙ by (nat_eq x.id rule.id) active t, still rules h.1)
    where
      by : (b : Bool) → x.active ≡ true → is_triggered x.triggers x.table (drop (cond b (length progress.changes) (progress.marks x.id)) progress.changes) ≡ true → is_candidate_of d.transactions session x.id ≡ true
      by true active t = let none = ap (is_triggered x.triggers x.table) (drop-all progress.changes) in absurd (cc)
      by false active t = h.0 active t

  pub represents-marked : Represents origin (record d { transactions = new }) session records clock setting (marked rule progress)
  represents-marked = record {
    who = r.who;
    changes = r.changes;
    past = λ x. subst (λ t. t ≤ clock) (sym (own-mark x)) (past (nat_eq x rule.id) x);
    tested = λ x. subst (λ (t : ℕ × ℕ). (t.0 ≤ t.1) × (t.1 ≤ clock)) (λ i. (sym (own-mark x) i, sym (own-test x) i)) (tests (nat_eq x rule.id) x);
    untriggered = still-tested setting.rules r.untriggered;
    marks = λ x. at (nat_eq x rule.id) x ∙ ap (λ t. mark_at (who_in d session) t records) (sym (own-mark x));
    base = r.base;
    made = r.made;
    locks = r.locks;
    locked = r.locked;
    candidates = still setting.rules r.candidates;
    left = r.left;
  }
    where
      past : (b : Bool) (x : ℕ) → cond b clock (mark_of d.transactions session x) ≤ clock
      past true x = omega arith
      past false x = r.past x

      tests : (b : Bool) (x : ℕ) → (cond b clock (mark_of d.transactions session x) ≤ cond b clock (tested_of d.transactions session x)) × (cond b clock (tested_of d.transactions session x) ≤ clock)
      tests true x = (omega arith, omega arith)
      tests false x = r.tested x

      at : (b : Bool) (x : ℕ) → cond b (length progress.changes) (progress.marks x) ≡ mark_at (who_in d session) (cond b clock (mark_of d.transactions session x)) records
      at true x = ap length (sym r.changes) ∙ end-mark (who_in d session) records clock rising
      at false x = r.marks x
