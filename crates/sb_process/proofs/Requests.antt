-- Locks asked for, as memory holds them.
use Rattle.std.proofs.Common.{◌≡◌, ◌∙◌, ℕ, Bool, true, false, ◌&&◌, ◌||◌, cond, nat_eq, List, [], ◌∷◌, map, subst, find, IsSome, Option, Some, None, Bor, Result, Ok, Err, option_map, is_some, refl, sym, ap, inl, inr}
use Rattle.std.proofs.lemmas.Option.{none-some, same_Some}
use Rattle.std.specs.Option.{option_copied}
use Rattle.sb_value.specs.declared.change.Change.{Change}
use Rattle.sb_value.specs.declared.id.Who.{Who}
use Rattle.sb_value.specs.declared.lock.LockMode.{LockMode}
use Rattle.sb_value.specs.declared.lock.LockMode.TheVariants.{Write}
use Rattle.sb_value.specs.declared.refusal.Refusal.{Refusal}
use Rattle.sb_value.specs.declared.refusal.Refusal.TheVariants.{Locked}
use Rattle.sb_value.specs.Locks.{Locks, same_mode, conflicts, first_conflict, with_locks}
use Rattle.sb_value.specs.Table.{Entry, name_at, after, after_all, after_change}
use Rattle.sb_tables.specs.Held.{Held, entries, numbered, has_number}
use Rattle.sb_value.specs.declared.net.Transition.{Transition}
use Rattle.sb_check.specs.declared.tree.Statement.{Statement}
use Rattle.sb_eval.specs.Statement.{statement_locks, write_of}
use Rattle.sb_eval.specs.Target.{target, mentioned}
use Rattle.sb_process.specs.Made.{AreMade}
use Rattle.sb_process.specs.Setting.{Setting, Progress, seen_with, tables_seen}
use Rattle.sb_process.specs.View.{seen_by}
use Rattle.sb_process.specs.Request.{AreThere, IsLocked, IsAnswer, after_request, refusal_for}
use Rattle.sb_process.specs.Consider.{with_request}
use Rattle.sb_eval.specs.Refused.{Answers}
use Rattle.sb_eval.specs.declared.error.EvalError.{EvalError}
use Rattle.sb_eval.specs.declared.error.EvalError.TheVariants as error
use Rattle.sb_process.specs.declared.database.Database.{Database}
use Rattle.sb_process.specs.Represents.{Represents, AreLocked, AreCandidates, who_in}
use Rattle.sb_process.specs.Transactions.{Kept}
use Rattle.sb_catalog.specs.declared.rule.Rule.{Rule}
use Rattle.std.specs.List.{list_any}
use Rattle.sb_rawlog.specs.Records.{Record}
use Rattle.sb_locks.specs.Held.{Holders, held}
use Rattle.sb_process.proofs.LockLists.{reads, locks_of}
use Rattle.sb_process.proofs.Making.{entries-made}
use Rattle.sb_process.proofs.Settling.{same_number, some_numbered, some_copied, some_mapped}

-- ---- names

conflict_there : (tables : List Held) (held : Locks) (session : ℕ) (request : List (ℕ × LockMode)) (table : ℕ) → AreThere tables request → first_conflict held session request ≡ Some table → has_number tables table ≡ true
conflict_there tables held session [] table h e = absurd (none-some table e)
conflict_there tables held session (r ∷ request) table h e = by (conflicts held session r.0 r.1) e (conflict_there tables held session request table h.1)
  where
    by : (b : Bool) → option_map (λ (x : ℕ × LockMode). x.0) (cond b (Some r) (find (λ (x : ℕ × LockMode). conflicts held session x.0 x.1) request)) ≡ Some table →
        (first_conflict held session request ≡ Some table → has_number tables table ≡ true) → has_number tables table ≡ true
    by true p rest = ap (has_number tables) (sym (same_Some r.0 table p)) ∙ h.0
    by false p rest = rest p

pub has_name_of : (tables : List Held) (held : Locks) (session : ℕ) (request : List (ℕ × LockMode)) (table : ℕ) (r : Option (Bor (List ℕ))) → AreThere tables request →
    first_conflict held session request ≡ Some table → option_copied r ≡ option_map (λ (h : Held). h.name) (numbered tables table) → IsSome r
has_name_of tables held session request table r h e named =
    sym (some_copied r) ∙ ap is_some named ∙ some_mapped (λ (h : Held). h.name) (numbered tables table) ∙ some_numbered tables table ∙ conflict_there tables held session request table h e

-- a change leaves the names
name-after : (c : Change) (es : List Entry) (id : ℕ) → name_at (after c es) id ≡ name_at es id
name-after c [] id = refl
name-after c (e ∷ es) id = by (nat_eq e.id c.table) (name-after c es id)
  where
    by : (b : Bool) → name_at (after c es) id ≡ name_at es id →
        cond (nat_eq (cond b (record e { table = after_change c e.table }) e).id id) (cond b (record e { table = after_change c e.table }) e).name (name_at (after c es) id)
        ≡ cond (nat_eq e.id id) e.name (name_at es id)
    by true rest = ap (cond (nat_eq e.id id) e.name) rest
    by false rest = ap (cond (nat_eq e.id id) e.name) rest

name-after_all : (cs : List Change) (es : List Entry) (id : ℕ) → name_at (after_all cs es) id ≡ name_at es id
name-after_all [] es id = refl
name-after_all (c ∷ cs) es id = name-after_all cs (after c es) id ∙ name-after c es id

name-held : (tables : List Held) (id : ℕ) (name : List ℕ) → option_map (λ (h : Held). h.name) (numbered tables id) ≡ Some name → name_at (entries tables) id ≡ name
name-held [] id name e = absurd (none-some name e)
name-held (h ∷ tables) id name e = by (nat_eq h.id id) e (name-held tables id name)
  where
    by : (b : Bool) → option_map (λ (x : Held). x.name) (cond b (Some h) (numbered tables id)) ≡ Some name → (option_map (λ (x : Held). x.name) (numbered tables id) ≡ Some name → name_at (entries tables) id ≡ name) →
        cond b h.name (name_at (entries tables) id) ≡ name
    by true p rest = same_Some h.name name p
    by false p rest = rest p

-- locks stay where more are taken
still_locked : (held : Locks) (who session : ℕ) (list : List (ℕ × LockMode)) (cs : List Change) → AreLocked held session cs → AreLocked (with_locks held who list) session cs
still_locked held who session list [] h = tt
still_locked held who session list (c ∷ cs) h =
    (ap (λ (b : Bool). b || ((nat_eq session who) && list_any (λ (x : ℕ × LockMode). (nat_eq x.0 c.table) && same_mode x.1 Write) list)) h.0, still_locked held who session list cs h.1)

-- the candidates have nothing to do with locks
same_candidates : (kept : Kept) (session : ℕ) (p : Progress) (more : Locks) (rules : List Rule) → AreCandidates kept session p rules → AreCandidates kept session (record p { locks = more }) rules
same_candidates kept session p more [] h = tt
same_candidates kept session p more (rule ∷ rules) h = (h.0, same_candidates kept session p more rules h.1)

-- nor with the budget
same_left : (kept : Kept) (session : ℕ) (p : Progress) (left : Option ℕ) (rules : List Rule) → AreCandidates kept session p rules → AreCandidates kept session (record p { left = left }) rules
same_left kept session p left [] h = tt
same_left kept session p left (rule ∷ rules) h = (h.0, same_left kept session p left rules h.1)

module _ {origin : List Held} {d : Database} {session : ℕ} {records : List Record} {clock : ℕ} {setting : Setting} {progress : Progress} (r : Represents origin d session records clock setting progress) where
  -- the tables in memory are those that are seen
  pub seen_tables : entries d.tables ≡ tables_seen setting progress
  seen_tables = entries-made origin progress.changes d.tables r.made ∙ ap (after_all progress.changes) r.base

  pub same_locks : held d.locks ≡ progress.locks
  same_locks = λ i s t m. r.locks s t m i

  -- the refusal that names a table
  pub same_refusal : (table : ℕ) (refusal : Refusal) → IsLocked d.tables table refusal → refusal ≡ Locked (name_at setting.base table)
  same_refusal table refusal l =
      l.2 ∙ ap Locked (sym (name-held d.tables table l.0 l.1) ∙ ap (λ es. name_at es table) seen_tables ∙ name-after_all progress.changes setting.base table)

  pub same_session : setting.who.session ≡ session
  same_session = ap (λ (w : Who). w.session) r.who

  -- the conflict that is found is the definition's
  pub same_conflict : (list : List (ℕ × LockMode)) → first_conflict progress.locks setting.who.session list ≡ first_conflict (held d.locks) session list
  same_conflict list = λ i. first_conflict (sym same_locks i) (same_session i) list

  pub found_conflict : {list asked : List (ℕ × LockMode)} {found : Option ℕ} → asked ≡ list → first_conflict (held d.locks) session asked ≡ found → first_conflict progress.locks setting.who.session list ≡ found
  found_conflict {list} {asked} {found} same e = same_conflict list ∙ ap (first_conflict (held d.locks) session) (sym same) ∙ e

  -- a statement sees what memory holds
  pub same_seen : (t : Transition) (p : Progress) → p.changes ≡ progress.changes → seen_with setting t p ≡ seen_by d.tables t (who_in d session)
  same_seen t p e = λ i. record { tables = (ap (λ cs. after_all cs setting.base) e ∙ sym seen_tables) i; transition = t; who = r.who i }

  -- with the same changes made of other tables, and under other locks
  pub stands_with : (tables : List Held) (holders : Holders) (locks : Locks) → AreMade origin progress.changes tables → ((s t : ℕ) (m : LockMode) → held holders s t m ≡ locks s t m) → AreLocked locks session progress.changes →
      AreCandidates d.transactions session (record progress { locks = locks }) setting.rules → Represents origin (record d { tables = tables; locks = holders }) session records clock setting (record progress { locks = locks })
  stands_with tables holders locks made are_held are_locked are_candidates = record {
    who = r.who;
    changes = r.changes;
    past = r.past;
    tested = r.tested;
    untriggered = r.untriggered;
    marks = r.marks;
    base = r.base;
    made = made;
    locks = are_held;
    locked = are_locked;
    candidates = are_candidates;
    left = r.left;
  }

  -- with so much left of the budget
  pub with_left : (left : Option ℕ) → Represents origin (record d { left = left }) session records clock setting (record progress { left = left })
  with_left left = record {
    who = r.who;
    changes = r.changes;
    past = r.past;
    tested = r.tested;
    untriggered = r.untriggered;
    marks = r.marks;
    base = r.base;
    made = r.made;
    locks = r.locks;
    locked = r.locked;
    candidates = same_left d.transactions session progress left setting.rules r.candidates;
    left = refl;
  }

  -- with more locks
  pub with_more : (more : Holders) (list : List (ℕ × LockMode)) → ((s t : ℕ) (m : LockMode) → held more s t m ≡ with_locks (held d.locks) session list s t m) →
      Represents origin (record d { locks = more }) session records clock setting (record progress { locks = with_locks progress.locks setting.who.session list })
  with_more more list taken =
      let locks : Locks = with_locks progress.locks setting.who.session list in
      stands_with d.tables more locks r.made (λ s t m. taken s t m ∙ (λ i. with_locks (same_locks i) (sym same_session i) list s t m)) (still_locked progress.locks setting.who.session session list progress.changes r.locked)
      (same_candidates d.transactions session progress locks setting.rules r.candidates)

-- ---- the definition, where the request is refused or granted

pub refused_answer : {A : Type 0} (setting : Setting) (progress : Progress) (list : List (ℕ × LockMode)) (next : Progress → Result A Refusal) (table : ℕ) →
    first_conflict progress.locks setting.who.session list ≡ Some table → with_request setting progress list next ≡ Err (Locked (name_at setting.base table))
refused_answer {A} setting progress list next table e =
    λ i. elim (e i) as (λ _. Result A Refusal) [ Some t ↦ Err (Locked (name_at setting.base t)) | None ↦ next (record progress { locks = with_locks progress.locks setting.who.session list }) ]

pub granted_answer : {A : Type 0} (setting : Setting) (progress : Progress) (list : List (ℕ × LockMode)) (next : Progress → Result A Refusal) →
    first_conflict progress.locks setting.who.session list ≡ None → with_request setting progress list next ≡ next (record progress { locks = with_locks progress.locks setting.who.session list })
granted_answer {A} setting progress list next e =
    λ i. elim (e i) as (λ _. Result A Refusal) [ Some t ↦ Err (Locked (name_at setting.base t)) | None ↦ next (record progress { locks = with_locks progress.locks setting.who.session list }) ]

pub after_refused : (setting : Setting) (progress : Progress) (list : List (ℕ × LockMode)) (table : ℕ) → first_conflict progress.locks setting.who.session list ≡ Some table → after_request setting list progress ≡ progress
after_refused setting progress list table e =
    λ i. elim (e i) as (λ _. Progress) [ Some t ↦ progress | None ↦ record progress { locks = with_locks progress.locks setting.who.session list } ]

pub after_granted : (setting : Setting) (progress : Progress) (list : List (ℕ × LockMode)) → first_conflict progress.locks setting.who.session list ≡ None →
    after_request setting list progress ≡ record progress { locks = with_locks progress.locks setting.who.session list }
after_granted setting progress list e =
    λ i. elim (e i) as (λ _. Progress) [ Some t ↦ progress | None ↦ record progress { locks = with_locks progress.locks setting.who.session list } ]

-- ---- answers of an evaluation

pub answer_ok : {A : Type 0} (meant same : Result A Refusal) (rows : A) → meant ≡ Ok rows → meant ≡ same → IsAnswer same (Ok rows)
answer_ok meant same rows e s = inl (sym e ∙ s)

pub answer_err : {X A : Type 0} (view : X → A) (meant same : Result A Refusal) (e : EvalError) (f : Refusal) → Answers view meant (Err e) → f ≡ refusal_for e → meant ≡ same → IsAnswer same (Err f)
answer_err view meant same error.TooBig f a p s = inl (ap Err p ∙ sym a ∙ s)
answer_err view meant same error.Overflow f a p s = inl (ap Err p ∙ sym a ∙ s)
answer_err view meant same error.TooManyRows f a p s = inl (ap Err p ∙ sym a ∙ s)
answer_err view meant same error.NoMemory f a p s = inr (ap Err p)

-- ---- statements

-- the target of a statement is locked for writing once its locks are taken
first_locked : (locks : Locks) (session t : ℕ) (list : List (ℕ × LockMode)) → with_locks locks session ((t, Write) ∷ list) session t Write ≡ true
first_locked locks session t list = by (locks session t Write)
  where
    rest : (((nat_eq session session) && (((nat_eq t t) && true) || list_any (λ (x : ℕ × LockMode). (nat_eq x.0 t) && same_mode x.1 Write) list))) ≡ true
    rest = λ i. same_number session i && ((same_number t i && true) || list_any (λ (x : ℕ × LockMode). (nat_eq x.0 t) && same_mode x.1 Write) list)

    by : (b : Bool) → (b || ((nat_eq session session) && (((nat_eq t t) && true) || list_any (λ (x : ℕ × LockMode). (nat_eq x.0 t) && same_mode x.1 Write) list))) ≡ true
    by true = refl
    by false = rest

pub target_locked : (locks : Locks) (session : ℕ) (s : Statement) → with_locks locks session (statement_locks s) session (target s) Write ≡ true
target_locked locks session s =
    let rest : List (ℕ × LockMode) = map (write_of (target s)) (reads (mentioned s)) in
    subst (λ (l : List (ℕ × LockMode)). with_locks locks session l session (target s) Write ≡ true) (locks_of s ((target s, Write) ∷ rest) refl) (first_locked locks session (target s) rest)
