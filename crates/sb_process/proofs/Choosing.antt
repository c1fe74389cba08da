-- The rule that is considered next, as memory has it.
use Rattle.std.proofs.Common.{◌≡◌, ◌∙◌, ℕ, ◌≤◌, Bool, true, false, ◌&&◌, cond, List, [], ◌∷◌, map, filter, take, drop, Option, Some, option_and_then, Result, Ok, Err, IfOk, refl, sym, ap, subst, nat_eq, None, eq-eqb, eqb-true}
use Rattle.std.proofs.lemmas.List.{take-append-drop}
use Rattle.std.proofs.lemmas.Option.{none-some}
use Rattle.sb_process.proofs.Growing.{lives_from}
use Rattle.std.specs.declared.alloc.AllocError.{AllocError}
use Rattle.sb_value.specs.declared.id.Who.{Who}
use Rattle.sb_value.specs.declared.net.Transition.{Transition}
use Rattle.sb_value.specs.Flags.{flag_at}
use Rattle.sb_value.specs.Laws.{AreLives, ProperListsHaveLives}
use Rattle.sb_value.specs.NetEffect.{is_triggered, transition_tables}
use Rattle.sb_value.specs.Table.{IsProper}
use Rattle.sb_value.specs.Order.{chosen}
use Rattle.sb_catalog.specs.declared.rule.Rule.{Rule}
use Rattle.sb_catalog.specs.Rules.{AreNumbered, numbered}
use Rattle.sb_index.specs.TableSets.{TableSets}
use Rattle.sb_priority.specs.Ranks.{Ranks, ranked}
use Rattle.sb_rawlog.specs.Records.{Record}
use Rattle.sb_rawlog.specs.Sessions.{MarksCut, changes_since, mark_at}
use Rattle.sb_tables.specs.Held.{Held, entries}
use Rattle.sb_process.specs.declared.database.Database.{Database}
use Rattle.sb_process.specs.Represents.{Represents, AreCandidates, AreUntriggered, who_in}
use Rattle.sb_process.specs.Setting.{Setting, Progress, transition, rule_is_triggered, rule_tables, is_candidate, next_rule}
use Rattle.sb_process.specs.Transactions.{Kept, mark_of, is_candidate_of}
use Rattle.sb_process.specs.Triggered.{is_hit, AreSifted, CanTest, CanTestAll, HasCandidates}
use Rattle.sb_process.specs.Work.{AreActive, IsWork}
use Rattle.sb_process.proofs.Testing.{can-test}

-- each of the rules is found under its number
abbrev pub AreFound : List Rule → List Rule → Type 0
AreFound all [] = Unit {0}
AreFound all (rule ∷ rules) = (numbered all rule.id ≡ Some rule) × AreFound all rules

found-wider : (first : Rule) (all rules : List Rule) → numbered all first.id ≡ None → AreFound all rules → AreFound (first ∷ all) rules
found-wider first all [] e h = tt
found-wider first all (rule ∷ rules) e h = (by (nat_eq first.id rule.id) refl, found-wider first all rules e h.1)
  where
    by : (b : Bool) → nat_eq first.id rule.id ≡ b → cond b (Some first) (numbered all rule.id) ≡ Some rule
    by true p = absurd (none-some rule (sym e ∙ ap (numbered all) (eqb-true first.id rule.id p) ∙ h.0))
    by false p = h.0

pub all-found : (rules : List Rule) → AreNumbered rules → AreFound rules rules
all-found [] h = tt
all-found (rule ∷ rules) h = (ap (λ (b : Bool). cond b (Some rule) (numbered rules rule.id)) (eq-eqb rule.id rule.id refl), found-wider rule rules rules h.0 (all-found rules h.1))

pub all-untriggered : (who : Who) (kept : Kept) (rs : List Record) (all : List Rule) → CanTestAll who kept rs all → (rules : List Rule) → AreFound all rules → AreUntriggered who kept rs rules
all-untriggered who kept rs all can [] f = tt
all-untriggered who kept rs all can (rule ∷ rules) f = ((subst (CanTest who kept rs) f.0 (can rule.id)).1, all-untriggered who kept rs all can rules f.1)

module _ (origin : List Held) (d : Database) (session : ℕ) (records : List Record) (clock : ℕ) (setting : Setting) (progress : Progress) (r : Represents origin d session records clock setting progress) (cut : MarksCut records) where
  -- the changes since a rule's mark, by its time
  pub since-mark : (rule : Rule) → transition progress rule ≡ changes_since (who_in d session) (mark_of d.transactions session rule.id) records
  since-mark rule = (λ i. drop (r.marks rule.id i) (sym r.changes i)) ∙ sym (cut (who_in d session) (mark_of d.transactions session rule.id))

  -- they are those of tuples' lives
  pub lives-since : (lives : ProperListsHaveLives) (rule : Rule) → AreLives (changes_since (who_in d session) (mark_of d.transactions session rule.id) records)
  lives-since lives rule =
      subst AreLives (since-mark rule)
      (lives_from lives origin (take (progress.marks rule.id) progress.changes) (transition progress rule) r.made.stored
      (subst (IsProper (entries origin)) (sym (take-append-drop (progress.marks rule.id) progress.changes)) r.made.proper))

  pub triggered-hit : (rule : Rule) → rule_is_triggered progress rule ≡ is_hit (who_in d session) d.transactions records (Some rule)
  triggered-hit rule = ap (is_triggered rule.triggers rule.table) (since-mark rule)

  pub tables-taken : (rule : Rule) → rule_tables progress rule ≡ transition_tables rule.triggers rule.table (changes_since (who_in d session) (mark_of d.transactions session rule.id) records)
  tables-taken rule = ap (transition_tables rule.triggers rule.table) (since-mark rule)

  module _ (eligible set : List Bool) (new : Kept) (all : List Rule) (s : AreSifted (who_in d session) records clock all eligible d.transactions new set) where
    hit-found : (rule : Rule) → numbered all rule.id ≡ Some rule → is_hit (who_in d session) d.transactions records (numbered all rule.id) ≡ rule_is_triggered progress rule
    hit-found rule e = ap (is_hit (who_in d session) d.transactions records) e ∙ sym (triggered-hit rule)

    -- the set has the eligible rules that are triggered
    pub has-candidates : (rules : List Rule) → AreFound all rules → AreActive (flag_at eligible) rules → AreCandidates d.transactions session progress rules → HasCandidates set (flag_at eligible) progress rules
    has-candidates [] f a h = tt
    has-candidates (rule ∷ rules) f a h = (
      by (flag_at set rule.id) (is_candidate_of new session rule.id) (flag_at eligible rule.id) (rule_is_triggered progress rule) (s.are_candidates rule.id)
          (λ is. sym (hit-found rule f.0) ∙ s.are_hit rule.id is) (λ l t. s.stay rule.id (hit-found rule f.0 ∙ t) ∙ h.0 (a.0 l) t),
      has-candidates rules f.1 a.1 h.1,
    )
      where
        by : (f n l t : Bool) → f ≡ (n && l) → (f ≡ true → t ≡ true) → (l ≡ true → t ≡ true → n ≡ true) → f ≡ (l && t)
        by f true false t e hit cand = e
        by f false false t e hit cand = e
        by f n true true e hit cand = e ∙ ap (λ (b : Bool). b && true) (cand refl refl)
        by true n true false e hit cand = sym (hit refl)
        by false n true false e hit cand = refl

    -- no candidate that is triggered has left
    stay-candidates : (rules : List Rule) → AreFound all rules → AreCandidates d.transactions session progress rules → AreCandidates new session progress rules
    stay-candidates [] f h = tt
    stay-candidates (rule ∷ rules) f h = (λ active t. s.stay rule.id (hit-found rule f.0 ∙ t) ∙ h.0 active t, stay-candidates rules f.1 h.1)

    pub represents-sifted : AreFound all setting.rules → Represents origin (record d { transactions = new }) session records clock setting progress
    represents-sifted f = record {
      who = r.who;
      changes = r.changes;
      past = λ rule. subst (λ t. t ≤ clock) (sym (s.marks session rule)) (r.past rule);
      tested = s.past;
      untriggered = all-untriggered (who_in d session) new records all s.can setting.rules f;
      marks = λ rule. r.marks rule ∙ ap (λ t. mark_at (who_in d session) t records) (sym (s.marks session rule));
      base = r.base;
      made = r.made;
      locks = r.locks;
      locked = r.locked;
      candidates = stay-candidates setting.rules f r.candidates;
      left = r.left;
    }

-- in order of creation they are the definition's candidates
ranked-candidates : (set : List Bool) (eligible : ℕ → Bool) (progress : Progress) (rules : List Rule) → HasCandidates set eligible progress rules →
    ranked set (map (λ (rule : Rule). rule.id) rules) ≡ map (λ (rule : Rule). rule.id) (filter (is_candidate eligible progress) rules)
ranked-candidates set eligible progress [] h = refl
ranked-candidates set eligible progress (rule ∷ rules) h =
    (λ i. cond (h.0 i) (rule.id ∷ ranked-candidates set eligible progress rules h.1 i) (ranked-candidates set eligible progress rules h.1 i)) ∙ by (is_candidate eligible progress rule)
  where
    by : (b : Bool) → cond b (rule.id ∷ map (λ (r : Rule). r.id) (filter (is_candidate eligible progress) rules)) (map (λ (r : Rule). r.id) (filter (is_candidate eligible progress) rules))
        ≡ map (λ (r : Rule). r.id) (cond b (rule ∷ filter (is_candidate eligible progress) rules) (filter (is_candidate eligible progress) rules))
    by true = refl
    by false = refl

-- what is chosen of the set is the next rule
pub next-chosen : (set : List Bool) (eligible : ℕ → Bool) (setting : Setting) (progress : Progress) (all : List Rule) (ids : List ℕ) (found : Option ℕ) →
    setting.rules ≡ all → ids ≡ map (λ (rule : Rule). rule.id) all → HasCandidates set eligible progress all → found ≡ chosen setting.pairs (ranked set ids) →
    option_and_then (numbered all) found ≡ next_rule setting eligible progress
next-chosen set eligible setting progress all ids found same listed h e =
    ap (option_and_then (numbered all)) (e ∙ ap (chosen setting.pairs) (ap (ranked set) listed ∙ ranked-candidates set eligible progress all h))
    ∙ ap (λ (rules : List Rule). option_and_then (numbered rules) (chosen setting.pairs (map (λ (rule : Rule). rule.id) (filter (is_candidate eligible progress) rules)))) (sym same)

-- ---- while processing

module _ {origin : List Held} {d : Database} {session : ℕ} {records : List Record} {clock : ℕ} {index : List (List TableSets)} {catalog : List Rule} {order : Ranks} {setting : Setting} {progress : Progress}
    (w : IsWork origin d session records clock index catalog order setting progress) (cut : MarksCut records) where
  pub can-sift : ProperListsHaveLives → CanTestAll (who_in d session) d.transactions records catalog
  can-sift lives =
      can-test (who_in d session) d.transactions records catalog (lives-since origin d session records clock setting progress w.transaction cut lives)
      (subst (AreUntriggered (who_in d session) d.transactions records) w.rules w.transaction.untriggered)

  module _ (own : AreNumbered catalog) {eligible set : List Bool} {new : Kept} (s : AreSifted (who_in d session) records clock catalog eligible d.transactions new set) where
    -- what is chosen of the sifted candidates is the next rule
    pub next-of : AreActive (flag_at eligible) catalog → (found : Option ℕ) → found ≡ chosen setting.pairs (ranked set order.rules) → option_and_then (numbered catalog) found ≡ next_rule setting (flag_at eligible) progress
    next-of active found is =
        next-chosen set (flag_at eligible) setting progress catalog order.rules found w.rules w.ordered.listed
        (has-candidates origin d session records clock setting progress w.transaction cut eligible set new catalog s catalog (all-found catalog own) active
        (subst (AreCandidates d.transactions session progress) w.rules w.transaction.candidates)) is

    pub work-on : {after : Database} → after ≡ record d { transactions = new } → IsWork origin after session records clock index catalog order setting progress
    work-on {after} same = subst (λ (x : Database). IsWork origin x session records clock index catalog order setting progress) (sym same)
        record {
          transaction = represents-sifted origin d session records clock setting progress w.transaction cut eligible set new catalog s (subst (AreFound catalog) (sym w.rules) (all-found catalog own));
          rules = w.rules;
          indexed = w.indexed;
          ordered = w.ordered;
        }

pub taken-ok : (result : Result Transition AllocError) (a b : Transition) → a ≡ b → IfOk result (λ t. t ≡ a) → IfOk result (λ t. t ≡ b)
taken-ok (Ok t) a b e h = h ∙ e
taken-ok (Err f) a b e h = tt
