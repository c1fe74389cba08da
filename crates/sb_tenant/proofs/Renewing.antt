-- A life in volumes: each volume answers as the endless engine, and ends in a state that is alike.
use Rattle.std.proofs.Common.{◌≡◌, ◌∙◌, ℕ, ◌+◌, ◌<◌, ◌≤◌, ◌||◌, Bool, true, false, not, ◌&&◌, cond, nat_eq, nat_lt, nat_le, List, [], ◌∷◌, ◌++◌, map, length, Some, All, IsTrue, refl, sym, ap, subst, arith, eqb-true, lt-ltb, ltb-true, codes}
use Rattle.std.specs.List.{flat_map, list_any}
use Rattle.std.proofs.lemmas.Bool.{lt-leb}
use Rattle.std.proofs.lemmas.List.Elements.{All-nil, All-cons, All-head, All-tail}
use Rattle.sb_tenant.specs.declared.bound.Bound.{Bound}
use Rattle.sb_value.specs.declared.value.Value.{Value}
use Rattle.sb_value.specs.declared.lock.LockMode.{LockMode}
use Rattle.sb_value.specs.Locks.{sessions}
use Rattle.sb_value.specs.Table.{Table, Entry, values, has_table, AreBelow, AreRising, IsTable}
use Rattle.sb_tenant.specs.declared.reply.Answer.{Answer}
use Rattle.sb_tenant.specs.declared.reply.Entry as entry
use Rattle.sb_tenant.specs.declared.reply.Reply.{Reply}
use Rattle.sb_tenant.specs.declared.reply.Reply.TheVariants as reply
use Rattle.sb_tenant.specs.Alike.{Shown, shown, HaveSamePairs, AreApart, IsAtRest, AreAlikeWithSessions}
use Rattle.sb_tenant.specs.Limits.{is_session, trail_limit}
use Rattle.sb_tenant.specs.State.{State, Session, opening, closed, idle, active, session_at, is_open, has_transaction, with_session, rolled_back}
use Rattle.sb_tenant.specs.Step.{is_full_for, numbered, step}
use Rattle.sb_tenant.specs.Trail.{IsLegal, IsNext, entry_of, answers, state_after}
use Rattle.sb_tenant.specs.TrailLaws.{LegalStatesAreReplayed, OthersStay}
use Rattle.sb_tenant.specs.WellFormed.{StatesAreWellFormed}
use Rattle.sb_tenant.proofs.Extensions.{step-numbered, step_is_next}
use Rattle.sb_tenant.proofs.Steps.{ends, opens, end_has_room, open_has_room}
use Rattle.sb_tenant.specs.AlikeTenants.{Numbering, IsNumbering, renumbered_table, renumbered_entry, IsRenumberedSession, IsRenumbered, AreAlike}
use Rattle.sb_tenant.specs.AlikeLaws.{AlikeAnswerAlike}
use Rattle.sb_tenant.specs.Renewals.{VolumeRun, IsReached, IsVolume, AreVolumes, RenewalIsUnseen, EndsAlone, OpensAlone, endless_step, endless_replies, replies_in, lines_of}
use Rattle.sb_tenant.proofs.AlikeAnswering.{left}
use Rattle.sb_tenant.proofs.AlikeAtRest.{AreUnlocked, at_rest_by, unlocked}
use Rattle.sb_tenant.proofs.Numbered.{Row, renumbered_row, less_number}
use Rattle.sb_tenant.proofs.States.{any-same, are-sessions}

-- ---- tables with other numbers

same_values : (f : ℕ → ℕ) (rows : List Row) → map (λ r. r.1) (map (renumbered_row f) rows) ≡ map (λ r. r.1) rows
same_values f [] = refl
same_values f (r ∷ rows) = λ i. r.1 ∷ same_values f rows i

same_shown : (n : Numbering) (tables : List Entry) → map shown (map (renumbered_entry n) tables) ≡ map shown tables
same_shown n [] = refl
same_shown n (e ∷ tables) = λ i. record { id = e.id; name = e.name; columns = e.table.columns; rows = same_values (n e.id) e.table.rows i } ∷ same_shown n tables i

same_numbers : (n : Numbering) (tables : List Entry) (id : ℕ) → has_table (map (renumbered_entry n) tables) id ≡ has_table tables id
same_numbers n [] id = refl
same_numbers n (e ∷ tables) id = ap (λ (b : Bool). nat_eq e.id id || b) (same_numbers n tables id)

apart_from : (n : Numbering) (tables : List Entry) → AreApart (map (renumbered_entry n) tables) → AreApart tables
apart_from n [] h = tt
apart_from n (e ∷ tables) h = (sym (same_numbers n tables e.id) ∙ h.0, apart_from n tables h.1)

apart_to : (n : Numbering) (tables : List Entry) → AreApart tables → AreApart (map (renumbered_entry n) tables)
apart_to n [] h = tt
apart_to n (e ∷ tables) h = (same_numbers n tables e.id ∙ h.0, apart_to n tables h.1)

-- numbers that keep the order
abbrev KeepsOrder : (ℕ → ℕ) → Type 0
KeepsOrder f = (a b : ℕ) → nat_lt (f a) (f b) ≡ nat_lt a b

module _ (f : ℕ → ℕ) (keeps : KeepsOrder f) where
  less_from : (a b : ℕ) → f a < f b → a < b
  less_from a b h = ltb-true a b (sym (keeps a b) ∙ lt-ltb (f a) (f b) h)

  less_to : (a b : ℕ) → a < b → f a < f b
  less_to a b h = ltb-true (f a) (f b) (keeps a b ∙ lt-ltb a b h)

  below_from : (next : ℕ) (rows : List Row) → AreBelow (f next) (map (renumbered_row f) rows) → AreBelow next rows
  below_from next [] h = tt
  below_from next (r ∷ rows) h = (less_from r.0 next h.0, below_from next rows h.1)

  below_to : (next : ℕ) (rows : List Row) → AreBelow next rows → AreBelow (f next) (map (renumbered_row f) rows)
  below_to next [] h = tt
  below_to next (r ∷ rows) h = (less_to r.0 next h.0, below_to next rows h.1)

  rising_from : (rows : List Row) → AreRising (map (renumbered_row f) rows) → AreRising rows
  rising_from [] h = tt
  rising_from (r ∷ []) h = tt
  rising_from (r ∷ q ∷ rows) h = (less_from r.0 q.0 h.0, rising_from (q ∷ rows) h.1)

  rising_to : (rows : List Row) → AreRising rows → AreRising (map (renumbered_row f) rows)
  rising_to [] h = tt
  rising_to (r ∷ []) h = tt
  rising_to (r ∷ q ∷ rows) h = (less_to r.0 q.0 h.0, rising_to (q ∷ rows) h.1)

abbrev IsSound : Entry → Type 0
IsSound e = IsTable e.table

module _ (n : Numbering) (rising : (table a b : ℕ) → a < b → n table a < n table b) where
  keeps_order : (table : ℕ) → KeepsOrder (n table)
  keeps_order table a b = less_number n rising table a b

  sound_from : (tables : List Entry) → All IsSound (map (renumbered_entry n) tables) → All IsSound tables
  sound_from [] h = All-nil IsSound
  sound_from (e ∷ tables) h =
      let first = All-head IsSound (renumbered_entry n e) (map (renumbered_entry n) tables) h in
      All-cons IsSound e tables
      (below_from (n e.id) (keeps_order e.id) e.table.next e.table.rows first.0, rising_from (n e.id) (keeps_order e.id) e.table.rows first.1)
      (sound_from tables (All-tail IsSound (renumbered_entry n e) (map (renumbered_entry n) tables) h))

  sound_to : (tables : List Entry) → All IsSound tables → All IsSound (map (renumbered_entry n) tables)
  sound_to [] h = All-nil IsSound
  sound_to (e ∷ tables) h =
      let first = All-head IsSound e tables h in
      All-cons IsSound (renumbered_entry n e) (map (renumbered_entry n) tables)
      (below_to (n e.id) (keeps_order e.id) e.table.next e.table.rows first.0, rising_to (n e.id) (keeps_order e.id) e.table.rows first.1)
      (sound_to tables (All-tail IsSound e tables h))

-- ---- a session of alike states

same_open : (tenant : ℕ) (n : Numbering) (one other : Session) → IsRenumberedSession tenant n one other → is_open other ≡ is_open one
same_open tenant n closed other h = ap is_open h
same_open tenant n idle other h = ap is_open h
same_open tenant n (active changes marks) closed h = absurd h
same_open tenant n (active changes marks) idle h = absurd h
same_open tenant n (active changes marks) (active renumbered same) h = refl

same_transaction : (tenant : ℕ) (n : Numbering) (one other : Session) → IsRenumberedSession tenant n one other → has_transaction other ≡ has_transaction one
same_transaction tenant n closed other h = ap has_transaction h
same_transaction tenant n idle other h = ap has_transaction h
same_transaction tenant n (active changes marks) closed h = absurd h
same_transaction tenant n (active changes marks) idle h = absurd h
same_transaction tenant n (active changes marks) (active renumbered same) h = refl

-- ---- a state that is alike to one at rest

module _ (tenant : ℕ) (one other : State) (h : AreAlike tenant tenant one other) (rest : IsAtRest one) where
  other_rests : IsAtRest other
  other_rests = record {
    ended =
        any-same (λ s. has_transaction (session_at other s)) (λ s. has_transaction (session_at one s)) sessions are-sessions
        (λ s is. same_transaction tenant h.second_numbering (session_at h.state s) (session_at other s) (h.second_is.sessions s is)
        ∙ sym (same_transaction tenant h.first_numbering (session_at h.state s) (session_at one s) (h.first_is.sessions s is)))
        ∙ rest.ended;
    apart = subst AreApart (sym h.second_is.catalog.tables) (apart_to h.second_numbering h.state.catalog.tables (apart_from h.first_numbering h.state.catalog.tables (subst AreApart h.first_is.catalog.tables rest.apart)));
    tables =
        subst (All IsSound) (sym h.second_is.catalog.tables)
        (sound_to h.second_numbering h.second_is.catalog.numbering_is.rising h.state.catalog.tables
        (sound_from h.first_numbering h.first_is.catalog.numbering_is.rising h.state.catalog.tables (subst (All IsSound) h.first_is.catalog.tables rest.tables)));
  }

  -- what is alike to the one at rest, with the same sessions open, is alike to the other as well
  module _ (third : State) (alike : AreAlikeWithSessions one third) where
    shows : map shown third.catalog.tables ≡ map shown other.catalog.tables
    shows =
        sym alike.at_rest.catalogs.tables
        ∙ ap (map shown) h.first_is.catalog.tables
        ∙ same_shown h.first_numbering h.state.catalog.tables
        ∙ sym (same_shown h.second_numbering h.state.catalog.tables)
        ∙ ap (map shown) (sym h.second_is.catalog.tables)

    with_other : AreAlikeWithSessions third other
    with_other = record {
      at_rest = record {
        catalogs = record {
          tables = shows;
          rules = sym alike.at_rest.catalogs.rules ∙ h.first_is.catalog.rules ∙ sym h.second_is.catalog.rules;
          rulesets = sym alike.at_rest.catalogs.rulesets ∙ h.first_is.catalog.rulesets ∙ sym h.second_is.catalog.rulesets;
          pairs = λ a b. sym (alike.at_rest.catalogs.pairs a b) ∙ h.first_is.catalog.pairs a b ∙ sym (h.second_is.catalog.pairs a b);
        };
        first = alike.at_rest.second;
        second = other_rests;
      };
      sessions = λ s is.
          sym (alike.sessions s is)
          ∙ same_open tenant h.first_numbering (session_at h.state s) (session_at one s) (h.first_is.sessions s is)
          ∙ sym (same_open tenant h.second_numbering (session_at h.state s) (session_at other s) (h.second_is.sessions s is));
    }

    pub renewed : AreUnlocked one → AreUnlocked third → AreAlike tenant tenant third other
    renewed free free_too =
        at_rest_by tenant tenant third other free_too
        (λ s table mode. h.second_is.locks s table mode ∙ sym (h.first_is.locks s table mode) ∙ free s table mode) with_other

-- the number of steps plays no part
uncounted : (tenant : ℕ) (one other : State) → AreAlike tenant tenant one other → AreAlike tenant tenant one (record other { steps = 0 })
uncounted tenant one other h = record {
  state = h.state;
  first_numbering = h.first_numbering;
  second_numbering = h.second_numbering;
  first_is = h.first_is;
  second_is = record { catalog = h.second_is.catalog; locks = h.second_is.locks; sessions = h.second_is.sessions };
}

-- ---- a state that is reached

module _ (tenant : ℕ) (bound : Bound) where
  legal_more : (before state after : State) (trail : List entry.Entry) (e : entry.Entry) → IsLegal tenant bound before trail state → IsNext tenant bound state e after → IsLegal tenant bound before (trail ++ e ∷ []) after
  legal_more before state after [] e h next = (after, subst (λ (x : State). IsNext tenant bound x e after) h next, refl)
  legal_more before state after (x ∷ trail) e h next = (h.0, h.1, legal_more h.0 state after trail e h.2 next)

  not_full : (state : State) (s : ℕ) (line : List ℕ) → state.steps < trail_limit → is_full_for state s line ≡ false
  not_full state s line below = open_has_room state s line (lt-leb trail_limit state.steps below)

  reached_more : (state : State) (s : ℕ) (line : List ℕ) → IsTrue (is_session s) → state.steps < trail_limit → IsReached tenant bound state → IsReached tenant bound (step tenant bound state s line).0
  reached_more state s line is below (trail, legal) = (
    trail ++ entry_of s line (step tenant bound state s line).1.reply ∷ [],
    legal_more opening state (step tenant bound state s line).0 trail (entry_of s line (step tenant bound state s line).1.reply) legal
        (step_is_next tenant bound state s line is (not_full state s line below)),
  )

  abbrev IsOwn : ℕ × List ℕ → Type 0
  IsOwn e = IsTrue (is_session e.0)

  reached_after : (state : State) (lines : List (ℕ × List ℕ)) → All IsOwn lines → state.steps + length lines ≤ trail_limit → IsReached tenant bound state → IsReached tenant bound (state_after tenant bound state lines)
  reached_after state [] own room reached = reached
  reached_after state (e ∷ lines) own room reached =
      let below : state.steps < trail_limit = omega (arith, room) in
      reached_after (step tenant bound state e.0 e.1).0 lines (All-tail IsOwn e lines own) (left tenant bound state e.0 e.1 below (length lines) room)
      (reached_more state e.0 e.1 (All-head IsOwn e lines own) below reached)

-- ---- the endless engine

module _ (tenant : ℕ) (bound : Bound) where
  abbrev endless_after : State → List (ℕ × List ℕ) → State
  endless_after state [] = state
  endless_after state (e ∷ es) = endless_after (endless_step tenant bound state e.0 e.1).0 es

  endless_more : (state : State) (one more : List (ℕ × List ℕ)) →
      endless_replies tenant bound state (one ++ more) ≡ endless_replies tenant bound state one ++ endless_replies tenant bound (endless_after state one) more
  endless_more state [] more = refl
  endless_more state (e ∷ es) more = λ i. (endless_step tenant bound state e.0 e.1).1.reply ∷ endless_more (endless_step tenant bound state e.0 e.1).0 es more i

abbrev first_reply : List Reply → Reply
first_reply [] = reply.Ok
first_reply (r ∷ rs) = r

-- ---- all volumes

module _ (tenant : ℕ) (bound : Bound) (alike : AlikeAnswerAlike tenant tenant bound) (formed : StatesAreWellFormed tenant bound) (replays : LegalStatesAreReplayed tenant bound) (stay : OthersStay tenant bound) where
  abbrev Alike : State → State → Type 0
  Alike one other = AreAlike tenant tenant one other

  free_at_rest : (state : State) → IsReached tenant bound state → IsAtRest state → AreUnlocked state
  free_at_rest state (trail, legal) rest = unlocked tenant bound formed replays stay trail state legal rest

  lines_unseen : (lines : List (ℕ × List ℕ)) (one other : State) → Alike one other → All (IsOwn tenant bound) lines → one.steps + length lines ≤ trail_limit →
      (map (λ a. a.reply) (answers tenant bound one lines) ≡ endless_replies tenant bound other lines) × Alike (state_after tenant bound one lines) (endless_after tenant bound other lines)
  lines_unseen [] one other h own room = (refl, h)
  lines_unseen (e ∷ lines) one other h own room =
      let below : one.steps < trail_limit = omega (arith, room) in
      let now =
      alike one (record other { steps = 0 }) (e ∷ []) (uncounted tenant one other h) (All-cons (IsOwn tenant bound) e [] (All-head (IsOwn tenant bound) e lines own) (All-nil (IsOwn tenant bound)))
      (omega (arith, below)) (omega arith) in
      let rest =
      lines_unseen lines (step tenant bound one e.0 e.1).0 (endless_step tenant bound other e.0 e.1).0 now.1 (All-tail (IsOwn tenant bound) e lines own)
      (left tenant bound one e.0 e.1 below (length lines) room) in
      (λ i. first_reply (now.0 i) ∷ rest.0 i, rest.1)

  volume_of : (v : VolumeRun) (volumes : List VolumeRun) → AreVolumes tenant bound v volumes → IsVolume tenant bound v
  volume_of v [] h = h
  volume_of v (w ∷ volumes) h = h.0

  volumes_unseen : (v : VolumeRun) (volumes : List VolumeRun) (other : State) → Alike v.begins other → AreVolumes tenant bound v volumes →
      replies_in tenant bound (v ∷ volumes) ≡ endless_replies tenant bound other (lines_of (v ∷ volumes))
  volumes_unseen v [] other h all =
      let now = lines_unseen v.lines v.begins other h all.sessions all.room in
      (λ i. now.0 i ++ []) ∙ sym (endless_more tenant bound other v.lines [])
  volumes_unseen v (w ∷ volumes) other h all =
      let now = lines_unseen v.lines v.begins other h all.0.sessions all.0.room in
      let ended = state_after tenant bound v.begins v.lines in
      let reached = reached_after tenant bound v.begins v.lines all.0.sessions all.0.room all.0.reached in
      let second = volume_of w volumes all.2 in
      let again : Alike w.begins (endless_after tenant bound other v.lines) =
      renewed tenant ended (endless_after tenant bound other v.lines) now.1 all.1.at_rest.first w.begins all.1
      (free_at_rest ended reached all.1.at_rest.first) (free_at_rest w.begins second.reached second.at_rest) in
      (λ i. now.0 i ++ volumes_unseen w volumes (endless_after tenant bound other v.lines) again all.2 i) ∙ sym (endless_more tenant bound other v.lines (lines_of (w ∷ volumes)))

  with_itself : (state : State) → IsAtRest state → AreAlikeWithSessions state state
  with_itself state rest = record {
    at_rest = record { catalogs = record { tables = refl; rules = refl; rulesets = refl; pairs = λ a b. refl }; first = rest; second = rest };
    sessions = λ s is. refl;
  }

  pub unseen : RenewalIsUnseen tenant bound
  unseen first others all =
      let begins = volume_of first others all in
      let free = free_at_rest first.begins begins.reached begins.at_rest in
      volumes_unseen first others first.begins (at_rest_by tenant tenant first.begins first.begins free free (with_itself first.begins begins.at_rest)) all

-- ---- a session without a transaction ends, and opens

module _ (tenant : ℕ) (bound : Bound) (formed : StatesAreWellFormed tenant bound) where
  pub end_alone : EndsAlone tenant bound
  end_alone state s reached is =
      let up : is_open (session_at state s) ≡ true = ap is_open is in
      step-numbered tenant bound state s (codes "end") (end_has_room state s up)
      ∙ ap (numbered state) (ends tenant bound state s up)
      ∙ (λ i. (
        record { catalog = state.catalog; locks = λ o table mode. same_locks o table mode i; sessions = λ o. same_sessions o (nat_eq o s) i; steps = state.steps + 1 },
        record { number = Some (state.steps + 1); reply = reply.Ok },
      ))
    where
      none_locked : (o table : ℕ) (mode : LockMode) → nat_eq o s ≡ true → state.locks o table mode ≡ false
      none_locked o table mode same =
          (formed reached.0 state reached.1).0.owned o table mode (ap (λ k. has_transaction (session_at state k)) (eqb-true o s same) ∙ ap has_transaction is)

      same_locks : (o table : ℕ) (mode : LockMode) → (not (nat_eq o s) && state.locks o table mode) ≡ state.locks o table mode
      same_locks o table mode = by (nat_eq o s) refl
        where
          by : (b : Bool) → nat_eq o s ≡ b → (not b && state.locks o table mode) ≡ state.locks o table mode
          by true same = sym (none_locked o table mode same)
          by false other = refl

      same_sessions : (o : ℕ) (b : Bool) → cond b closed (cond b idle (session_at state o)) ≡ cond b closed (session_at state o)
      same_sessions o true = refl
      same_sessions o false = refl

pub open_alone : (tenant : ℕ) (bound : Bound) → OpensAlone tenant bound
open_alone tenant bound state s is below =
    step-numbered tenant bound state s (codes "open") (not_full tenant bound state s (codes "open") below) ∙ ap (numbered state) (opens tenant bound state s (ap is_open is))
