-- What a transaction comes to while a rule runs.
use Rattle.std.proofs.Common.{◌≡◌, ◌∙◌, ◌⊎◌, inl, inr, ℕ, Bool, true, false, not, ◌&&◌, ◌||◌, nat_eq, List, [], ◌∷◌, Option, Some, None, Result, Ok, Err, refl, sym, ap, subst}
use Rattle.std.specs.List.{list_any}
use Rattle.sb_value.specs.declared.value.Value.{Value}
use Rattle.sb_value.specs.declared.change.Change.{Change}
use Rattle.sb_value.specs.declared.net.Transition.{Transition}
use Rattle.sb_value.specs.declared.lock.LockMode.{LockMode}
use Rattle.sb_value.specs.declared.refusal.Refusal.{Refusal}
use Rattle.sb_value.specs.declared.refusal.Refusal.TheVariants.{Locked, NoMemory}
use Rattle.sb_value.specs.Locks.{Locks, same_mode, first_conflict, with_locks, released}
use Rattle.sb_value.specs.Table.{name_at}
use Rattle.sb_check.specs.declared.tree.Statement.{Statement}
use Rattle.sb_check.specs.declared.tree.Action.{Action}
use Rattle.sb_check.specs.declared.tree.Action.TheVariants as action
use Rattle.sb_catalog.specs.declared.rule.Rule.{Rule}
use Rattle.sb_tables.specs.Held.{Held, has_number}
use Rattle.sb_eval.specs.Statement.{statement_locks}
use Rattle.sb_rawlog.specs.Records.{Record}
use Rattle.sb_process.specs.declared.database.Database.{Database}
use Rattle.sb_process.specs.declared.consider.Consideration.{Consideration}
use Rattle.sb_process.specs.declared.consider.Consideration.TheVariants.{False}
use Rattle.sb_process.specs.Consider.{Ending, ran, rolled_back, refused, Considered, was_false, was_true, was_refused, with_effect, run_statement, statement_effect, run_actions, test_rows, test_condition, consider}
use Rattle.sb_process.specs.Represents.{Represents}
use Rattle.sb_process.specs.Request.{AreThere, IsAnswer, after_request}
use Rattle.sb_process.specs.Running.{ComesTo, Tests, Acts, Ends, Goes, truth}
use Rattle.sb_process.specs.Setting.{Setting, Progress, marked, rule_tables}
use Rattle.sb_process.specs.Statement.{effect_meant, with_effect_of, after_statement, counted, Runs}
use Rattle.sb_process.specs.Work.{AreActionsThere}
use Rattle.sb_process.proofs.Requests.{same_session}
use Rattle.sb_process.proofs.Sharing.{there}

-- ---- locks

-- a release takes what a session has taken more
pub released-with : (locks : Locks) (who session : ℕ) (list : List (ℕ × LockMode)) → who ≡ session → (s t : ℕ) (m : LockMode) → released (with_locks locks who list) session s t m ≡ released locks session s t m
released-with locks who session list same s t m = by (nat_eq s session) (locks s t m) (list_any (λ (r : ℕ × LockMode). (nat_eq r.0 t) && same_mode r.1 m) list) (nat_eq s who) (ap (nat_eq s) same)
  where
    by : (b l more own : Bool) → own ≡ b → (not b && (l || (own && more))) ≡ (not b && l)
    by true l more own e = refl
    by false true more own e = refl
    by false false more own e = ap (λ (o : Bool). o && more) e

pub released-after : (setting : Setting) (progress : Progress) (list : List (ℕ × LockMode)) (session : ℕ) → setting.who.session ≡ session → (s t : ℕ) (m : LockMode) →
    released (after_request setting list progress).locks session s t m ≡ released progress.locks session s t m
released-after setting progress list session same s t m = by (first_conflict progress.locks setting.who.session list)
  where
    by : (o : Option ℕ) → released (elim o as (λ _. Progress) [ Some t ↦ progress | None ↦ record progress { locks = with_locks progress.locks setting.who.session list } ]).locks session s t m ≡ released progress.locks session s t m
    by (Some x) = refl
    by None = released-with progress.locks setting.who.session session list same s t m

same-locks : (meant : Result (List Change × Option ℕ) Refusal) (p : Progress) → (with_effect_of meant p).locks ≡ p.locks
same-locks (Ok changes) p = refl
same-locks (Err refusal) p = refl

-- ---- tables

pub there-same : (old new : List Held) → ((id : ℕ) → has_number new id ≡ has_number old id) → (request : List (ℕ × LockMode)) → AreThere old request → AreThere new request
there-same old new e [] h = tt
there-same old new e (r ∷ request) h = (e r.0 ∙ h.0, there-same old new e request h.1)

pub actions-there : (old new : List Held) → ((id : ℕ) → has_number new id ≡ has_number old id) → (actions : List Action) → AreActionsThere old actions → AreActionsThere new actions
actions-there old new e [] h = tt
actions-there old new e (action.Rollback ∷ actions) h = actions-there old new e actions h
actions-there old new e (action.Change statement ∷ actions) h = (there-same old new e (statement_locks statement) h.0, actions-there old new e actions h.1)

pub rest-there : (tables : List Held) (first : Action) (actions : List Action) → AreActionsThere tables (first ∷ actions) → AreActionsThere tables actions
rest-there tables action.Rollback actions h = h
rest-there tables (action.Change statement) actions h = h.1

module _ (origin : List Held) (session : ℕ) (setting : Setting) (progress : Progress) (d : Database) (records : List Record) (clock : ℕ) (r : Represents origin d session records clock setting progress) where
  module _ (new : Database) (later : List Record) (time : ℕ) where
    pub same-numbers : (after : Progress) → ComesTo origin new session later time setting progress after → (id : ℕ) → has_number new.tables id ≡ has_number d.tables id
    same-numbers after n id = there origin new.tables after.changes n.stands.made id ∙ sym (there origin d.tables progress.changes r.made id)

    -- after the request, after the statement
    pub comes-request : (list : List (ℕ × LockMode)) → Represents origin new session later time setting (after_request setting list progress) →
        ComesTo origin new session later time setting progress (after_request setting list progress)
    comes-request list n = record { stands = n; locks = released-after setting progress list session (same_session r) }

    pub comes-statement : (tables : Transition) (statement : Statement) → Represents origin new session later time setting (after_statement setting tables statement progress) →
        ComesTo origin new session later time setting progress (after_statement setting tables statement progress)
    comes-statement tables statement n = record {
      stands = n;
      locks = λ s t m. ap (λ (l : Locks). released l session s t m) (same-locks (effect_meant setting tables statement progress) (after_request setting (statement_locks statement) progress))
          ∙ released-after setting progress (statement_locks statement) session (same_session r) s t m;
    }

    pub comes-same : Represents origin new session later time setting progress → ComesTo origin new session later time setting progress progress
    comes-same n = record { stands = n; locks = λ s t m. refl }

    -- what a statement comes to, however it answers
    pub runs-under_way : (tables : Transition) (statement : Statement) (result : Result ℕ Refusal) → Runs origin new session tables statement result later time setting progress →
        (after : Progress) × ComesTo origin new session later time setting progress after
    runs-under_way tables statement result (inl h) = (after_statement setting tables statement progress, comes-statement tables statement h.1)
    runs-under_way tables statement result (inr h) = by h.1
      where
        by : Represents origin new session later time setting (after_request setting (statement_locks statement) progress) ⊎ Represents origin new session later time setting progress →
            (after : Progress) × ComesTo origin new session later time setting progress after
        by (inl n) = (after_request setting (statement_locks statement) progress, comes-request (statement_locks statement) n)
        by (inr n) = (progress, comes-same n)

-- one after the other
pub comes-on : (origin : List Held) (session : ℕ) (setting : Setting) (progress p q : Progress) (mid new : Database) (earlier later : List Record) (then time : ℕ) →
    ComesTo origin mid session earlier then setting progress p → ComesTo origin new session later time setting p q → ComesTo origin new session later time setting progress q
comes-on origin session setting progress p q mid new earlier later then time a b = record { stands = b.stands; locks = λ s t m. b.locks s t m ∙ a.locks s t m }

-- with the same locks in memory and so much left of the budget
pub comes-charged : (origin : List Held) (session : ℕ) (setting : Setting) (progress p : Progress) (mid : Database) (left : Option ℕ) (records : List Record) (clock : ℕ) → ComesTo origin mid session records clock setting progress p →
    (q : Progress) → Represents origin (record mid { left = left }) session records clock setting q → ComesTo origin (record mid { left = left }) session records clock setting progress q
comes-charged origin session setting progress p mid left records clock come q r =
    let same : q.locks ≡ p.locks = λ i s t m. (sym (r.locks s t m) ∙ come.stands.locks s t m) i in
    record { stands = r; locks = λ s t m. ap (λ (l : Locks). released l session s t m) same ∙ come.locks s t m }

-- a mark takes no locks
pub comes-marked : (origin : List Held) (session : ℕ) (setting : Setting) (rule : Rule) (progress p : Progress) (new : Database) (records : List Record) (clock : ℕ) →
    ComesTo origin new session records clock setting (marked rule progress) p → ComesTo origin new session records clock setting progress p
comes-marked origin session setting rule progress p new records clock h = record { stands = h.stands; locks = h.locks }

pub tests-map : (S R : Progress → Type 0) → ((q : Progress) → S q → R q) → (tested : Result (Bool × Progress) Refusal) (result : Result Bool Refusal) → Tests S tested result ⊎ (result ≡ Err NoMemory) →
    Tests R tested result ⊎ (result ≡ Err NoMemory)
tests-map S R f (Ok t) result (inl h) = inl (h.0, f t.1 h.1)
tests-map S R f (Err refusal) result (inl h) = inl h
tests-map S R f tested result (inr h) = inr h

pub ends-map : (S R : Progress → Type 0) → ((q : Progress) → S q → R q) → (ending : Ending) (result : Result Consideration Refusal) → Ends S ending result → Ends R ending result
ends-map S R f (ran p) result h = (h.0, f p h.1)
ends-map S R f rolled_back result h = h
ends-map S R f (refused refusal) result h = h

-- ---- a statement's answer

-- a progress, unless the changes are refused
abbrev ended_by : Result (List Change × Option ℕ) Refusal → Progress → Result Progress Refusal
ended_by (Err refusal) p = Err refusal
ended_by (Ok changes) p = Ok p

statement-ended : (setting : Setting) (tables : Transition) (statement : Statement) (progress : Progress) →
    run_statement setting tables statement progress ≡ ended_by (effect_meant setting tables statement progress) (after_statement setting tables statement progress)
statement-ended setting tables statement progress = by (first_conflict progress.locks setting.who.session (statement_locks statement))
  where
    p : Progress
    p = record progress { locks = with_locks progress.locks setting.who.session (statement_locks statement) }

    granted : (meant : Result (List Change × Option ℕ) Refusal) → with_effect p meant ≡ ended_by meant (with_effect_of meant p)
    granted (Ok changes) = refl
    granted (Err refusal) = refl

    meant : Option ℕ → Result (List Change × Option ℕ) Refusal
    meant o = elim o as (λ _. Result (List Change × Option ℕ) Refusal) [ Some t ↦ Err (Locked (name_at setting.base t)) | None ↦ statement_effect setting tables statement p ]

    by : (o : Option ℕ) →
        elim o as (λ _. Result Progress Refusal) [ Some t ↦ Err (Locked (name_at setting.base t)) | None ↦ with_effect p (statement_effect setting tables statement p) ]
        ≡ ended_by (elim o as (λ _. Result (List Change × Option ℕ) Refusal) [ Some t ↦ Err (Locked (name_at setting.base t)) | None ↦ statement_effect setting tables statement p ])
        (with_effect_of (elim o as (λ _. Result (List Change × Option ℕ) Refusal) [ Some t ↦ Err (Locked (name_at setting.base t)) | None ↦ statement_effect setting tables statement p ])
        (elim o as (λ _. Progress) [ Some t ↦ progress | None ↦ p ]))
    by (Some t) = refl
    by None = granted (statement_effect setting tables statement p)

counted-ok : (meant : Result (List Change × Option ℕ) Refusal) (p : Progress) (n : ℕ) → Ok n ≡ counted meant → ended_by meant p ≡ Ok p
counted-ok (Ok changes) p n e = refl
counted-ok (Err refusal) p n e = absurd (cc)

counted-err : (meant : Result (List Change × Option ℕ) Refusal) (p : Progress) (refusal : Refusal) → Err refusal ≡ counted meant → ended_by meant p ≡ Err refusal
counted-err (Ok changes) p refusal e = absurd (cc)
counted-err (Err other) p refusal e = cc

pub statement-ok : (setting : Setting) (tables : Transition) (statement : Statement) (progress : Progress) (n : ℕ) → Ok n ≡ counted (effect_meant setting tables statement progress) →
    run_statement setting tables statement progress ≡ Ok (after_statement setting tables statement progress)
statement-ok setting tables statement progress n e =
    statement-ended setting tables statement progress ∙ counted-ok (effect_meant setting tables statement progress) (after_statement setting tables statement progress) n e

pub statement-err : (setting : Setting) (tables : Transition) (statement : Statement) (progress : Progress) (refusal : Refusal) → Err refusal ≡ counted (effect_meant setting tables statement progress) →
    run_statement setting tables statement progress ≡ Err refusal
statement-err setting tables statement progress refusal e =
    statement-ended setting tables statement progress ∙ counted-err (effect_meant setting tables statement progress) (after_statement setting tables statement progress) refusal e

-- ---- a condition's answer

pub tests-rows : (S : Progress → Type 0) (p : Progress) (rows : Result (List (List Value)) Refusal) (result : Result Bool Refusal) → S p → IsAnswer (truth rows) result →
    Tests S (test_rows p rows) result ⊎ (result ≡ Err NoMemory)
tests-rows S p (Ok rows) result s (inl e) = inl (e, s)
tests-rows S p (Ok rows) result s (inr e) = inr e
tests-rows S p (Err refusal) result s (inl e) = inl e
tests-rows S p (Err refusal) result s (inr e) = inr e

-- ---- one action before the others

refusal-of : (a b : Refusal) → ◌≡◌ {A = Result Bool Refusal} (Err a) (Err b) → a ≡ b
refusal-of a b e = cc

module _ (S : Progress → Type 0) (setting : Setting) (tables : Transition) where
  pub first-ran : (a : Action) (actions : List Action) (p : Progress) → Acts S (run_actions setting tables (a ∷ []) p) (Ok true) →
      (q : Progress) × (S q) × (run_actions setting tables (a ∷ actions) p ≡ run_actions setting tables actions q)
  first-ran action.Rollback actions p h = absurd (cc)
  first-ran (action.Change statement) actions p h = by (run_statement setting tables statement p) h
    where
      by : (r : Result Progress Refusal) → Acts S (elim r as (λ _. Ending) [ Err refusal ↦ refused refusal | Ok q ↦ run_actions setting tables [] q ]) (Ok true) →
          (q : Progress) × (S q) × (elim r as (λ _. Ending) [ Err refusal ↦ refused refusal | Ok q ↦ run_actions setting tables actions q ] ≡ run_actions setting tables actions q)
      by (Ok q) e = (q, e.1, refl)
      by (Err refusal) e = absurd (cc)

  pub first-rolled_back : (a : Action) (actions : List Action) (p : Progress) → Acts S (run_actions setting tables (a ∷ []) p) (Ok false) → run_actions setting tables (a ∷ actions) p ≡ rolled_back
  first-rolled_back action.Rollback actions p h = refl
  first-rolled_back (action.Change statement) actions p h = by (run_statement setting tables statement p) h
    where
      by : (r : Result Progress Refusal) → Acts S (elim r as (λ _. Ending) [ Err refusal ↦ refused refusal | Ok q ↦ run_actions setting tables [] q ]) (Ok false) →
          elim r as (λ _. Ending) [ Err refusal ↦ refused refusal | Ok q ↦ run_actions setting tables actions q ] ≡ rolled_back
      by (Ok q) e = let no = e.0 in absurd (cc)
      by (Err refusal) e = absurd (cc)

  pub first-refused : (a : Action) (actions : List Action) (p : Progress) (refusal : Refusal) → Acts S (run_actions setting tables (a ∷ []) p) (Err refusal) → run_actions setting tables (a ∷ actions) p ≡ refused refusal
  first-refused action.Rollback actions p refusal h = absurd (cc)
  first-refused (action.Change statement) actions p refusal h = by (run_statement setting tables statement p) h
    where
      by : (r : Result Progress Refusal) → Acts S (elim r as (λ _. Ending) [ Err other ↦ refused other | Ok q ↦ run_actions setting tables [] q ]) (Err refusal) →
          elim r as (λ _. Ending) [ Err other ↦ refused other | Ok q ↦ run_actions setting tables actions q ] ≡ refused refusal
      by (Ok q) e = let no = e.0 in absurd (cc)
      by (Err other) e = ap refused (refusal-of other refusal (sym e))

-- ---- a change as the only action

module _ (origin : List Held) (session : ℕ) (setting : Setting) (progress : Progress) (d : Database) (records : List Record) (clock : ℕ) (r : Represents origin d session records clock setting progress) (new : Database) (later : List Record) (time : ℕ) (tables : Transition) (statement : Statement) (result : Result ℕ Refusal) where
  abbrev comes : Progress → Type 0
  comes p = ComesTo origin new session later time setting progress p

  abbrev alone : Ending
  alone = run_actions setting tables (action.Change statement ∷ []) progress

  abbrev ends : Result Progress Refusal → Ending
  ends done = elim done as (λ _. Ending) [ Err refusal ↦ refused refusal | Ok q ↦ ran q ]

  pub change-ran : (n : ℕ) → result ≡ Ok n → Runs origin new session tables statement result later time setting progress → Acts comes alone (Ok true) ⊎ (Ok true ≡ Err NoMemory)
  change-ran n e (inl h) =
      inl (subst (λ (x : Ending). Acts comes x (Ok true)) (sym (ap ends (statement-ok setting tables statement progress n (sym e ∙ h.0))))
      (refl, comes-statement origin session setting progress d records clock r new later time tables statement h.1))
  change-ran n e (inr h) = let no = h.0 in absurd (cc)

  pub change-refused : (refusal : Refusal) → result ≡ Err refusal → Runs origin new session tables statement result later time setting progress → Acts comes alone (Err refusal) ⊎ ◌≡◌ {A = Result Bool Refusal} (Err refusal) (Err NoMemory)
  change-refused refusal e (inl h) =
      inl (subst (λ (x : Ending). Acts comes x (Err refusal)) (sym (ap ends (statement-err setting tables statement progress refusal (sym e ∙ h.0)))) refl)
  change-refused refusal e (inr h) = let no = h.0 in let same : refusal ≡ NoMemory = cc in inr (ap Err same)

-- ---- answers of an action, and of those behind it

pub acted : (S : Progress → Type 0) (ending : Ending) (result : Result Bool Refusal) (b : Bool) → result ≡ Ok b → Acts S ending result ⊎ (result ≡ Err NoMemory) → Acts S ending (Ok b)
acted S ending result b e (inl h) = subst (Acts S ending) e h
acted S ending result b e (inr h) = absurd (cc)

pub ends-after : (S R : Progress → Type 0) (all rest : Ending) (result : Result Consideration Refusal) → all ≡ rest → ((q : Progress) → R q → S q) → Ends R rest result ⊎ (result ≡ Err NoMemory) →
    Ends S all result ⊎ (result ≡ Err NoMemory)
ends-after S R all rest result e f (inl h) = inl (subst (λ (x : Ending). Ends S x result) (sym e) (ends-map R S f rest result h))
ends-after S R all rest result e f (inr h) = inr h

pub ends-refused : (S : Progress → Type 0) (one all : Ending) (result : Result Bool Refusal) (refusal : Refusal) → result ≡ Err refusal → (Acts S one (Err refusal) → all ≡ refused refusal) →
    Acts S one result ⊎ (result ≡ Err NoMemory) → Ends S all (Err refusal) ⊎ ◌≡◌ {A = Result Consideration Refusal} (Err refusal) (Err NoMemory)
ends-refused S one all result refusal e f (inl h) = inl (subst (λ (x : Ending). Ends S x (Err refusal)) (sym (f (subst (Acts S one) e h))) refl)
ends-refused S one all result refusal e f (inr h) = inr (ap Err (refusal-of refusal NoMemory (sym e ∙ h)))

-- ---- a condition before the actions

tested-ok : (S : Progress → Type 0) (tested : Result (Bool × Progress) Refusal) (b : Bool) → Tests S tested (Ok b) → (q : Progress) × (S q) × (tested ≡ Ok (b, q))
tested-ok S (Ok t) b h = let e : b ≡ t.0 = cc (h.0) in (t.1, h.1, λ i. Ok (sym e i, t.1))
tested-ok S (Err refusal) b h = absurd (cc)

module _ (setting : Setting) (tables : Transition) (rule : Rule) where
  abbrev pub considered : Result (Bool × Progress) Refusal → Considered
  considered tested = elim tested as (λ _. Considered) [
    | Err refusal ↦ was_refused refusal
    | Ok t ↦ elim t.0 as (λ _. Considered) [ true ↦ was_true (run_actions setting tables rule.actions t.1) | false ↦ was_false t.1 ]
  ]

  module _ (S : Progress → Type 0) (tested : Result (Bool × Progress) Refusal) (result : Result Bool Refusal) (h : Tests S tested result ⊎ (result ≡ Err NoMemory)) where
    pub went : (b : Bool) → result ≡ Ok b → (q : Progress) × (S q) × (tested ≡ Ok (b, q))
    went b e = by h
      where
        by : Tests S tested result ⊎ (result ≡ Err NoMemory) → (q : Progress) × (S q) × (tested ≡ Ok (b, q))
        by (inl t) = tested-ok S tested b (subst (Tests S tested) e t)
        by (inr n) = absurd (cc)

    pub goes-false : result ≡ Ok false → Goes S (considered tested) (Ok False) ⊎ ◌≡◌ {A = Result Consideration Refusal} (Ok False) (Err NoMemory)
    goes-false e = let w = went false e in inl (subst (λ (t : Result (Bool × Progress) Refusal). Goes S (considered t) (Ok False)) (sym w.2) (refl, w.1))

    pub goes-refused : (refusal : Refusal) → result ≡ Err refusal → Goes S (considered tested) (Err refusal) ⊎ ◌≡◌ {A = Result Consideration Refusal} (Err refusal) (Err NoMemory)
    goes-refused refusal e = by h
      where
        of : (t : Result (Bool × Progress) Refusal) → Tests S t (Err refusal) → Goes S (considered t) (Err refusal)
        of (Ok t) p = absurd (let x = p.0 in cc)
        of (Err other) p = ap Err (refusal-of refusal other p)

        by : Tests S tested result ⊎ (result ≡ Err NoMemory) → Goes S (considered tested) (Err refusal) ⊎ ◌≡◌ {A = Result Consideration Refusal} (Err refusal) (Err NoMemory)
        by (inl t) = inl (of tested (subst (Tests S tested) e t))
        by (inr n) = inr (ap Err (refusal-of refusal NoMemory (sym e ∙ n)))

    pub goes-true : (R : Progress → Type 0) (q : Progress) (last : Result Consideration Refusal) → tested ≡ Ok (true, q) → Ends R (run_actions setting tables rule.actions q) last ⊎ (last ≡ Err NoMemory) →
        Goes R (considered tested) last ⊎ (last ≡ Err NoMemory)
    goes-true R q last e (inl n) = inl (subst (λ (t : Result (Bool × Progress) Refusal). Goes R (considered t) last) (sym e) n)
    goes-true R q last e (inr n) = inr n

-- the answer where the condition isn't true, behind the mark
module _ (origin : List Held) (session : ℕ) (setting : Setting) (rule : Rule) (progress : Progress) (tables : Transition) (new : Database) (records : List Record) (clock : ℕ) (taken : tables ≡ rule_tables progress rule) (result : Result Bool Refusal)
    (h : Tests (ComesTo origin new session records clock setting (marked rule progress)) (test_condition setting tables rule.condition (marked rule progress)) result ⊎ (result ≡ Err NoMemory)) where
  abbrev stands : Progress → Type 0
  stands p = ComesTo origin new session records clock setting progress p

  abbrev tested : Transition → Result (Bool × Progress) Refusal
  tested t = test_condition setting t rule.condition (marked rule progress)

  answer : Tests stands (tested tables) result ⊎ (result ≡ Err NoMemory)
  answer = tests-map (λ q. ComesTo origin new session records clock setting (marked rule progress) q) stands (λ q k. comes-marked origin session setting rule progress q new records clock k) (tested tables) result h

  goes-as : (last : Result Consideration Refusal) → Goes stands (considered setting tables rule (tested tables)) last ⊎ (last ≡ Err NoMemory) → Goes stands (consider setting rule progress) last ⊎ (last ≡ Err NoMemory)
  goes-as last goes = subst (λ (t : Transition). Goes stands (considered setting t rule (tested t)) last ⊎ (last ≡ Err NoMemory)) taken goes

  pub considered-false : result ≡ Ok false → Goes stands (consider setting rule progress) (Ok False) ⊎ ◌≡◌ {A = Result Consideration Refusal} (Ok False) (Err NoMemory)
  considered-false e = goes-as (Ok False) (goes-false setting tables rule stands (tested tables) result answer e)

  pub considered-refused : (refusal : Refusal) → result ≡ Err refusal → Goes stands (consider setting rule progress) (Err refusal) ⊎ ◌≡◌ {A = Result Consideration Refusal} (Err refusal) (Err NoMemory)
  considered-refused refusal e = goes-as (Err refusal) (goes-refused setting tables rule stands (tested tables) result answer refusal e)

-- a mark, locks and a budget leave the number of the tenant
pub same-id : (old mid new : Database) → mid ≡ record old { transactions = mid.transactions } → new ≡ record mid { locks = new.locks; left = new.left } → old.id ≡ new.id
same-id old mid new a b = sym (ap (λ (d : Database). d.id) b ∙ ap (λ (d : Database). d.id) a)
