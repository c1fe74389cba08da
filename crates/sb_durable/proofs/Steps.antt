-- The steps of a run, what they are recorded as, and what their records make.
use Rattle.std.proofs.Common.{◌≡◌, ℕ, ◌/◌, ◌%◌, Bool, true, false, cond, ◌==◌, ◌&&◌, nat_lt, List, [], ◌∷◌, ◌++◌, codes, Option, Some, None, Result, Ok, Err, refl, sym, ap, ◌∙◌, subst, inl, inr, IsTrue}
use Rattle.std.proofs.lemmas.Bool.{eqb-true, eq-eqb}
use Rattle.std.proofs.lemmas.List.Elements.{filter_map-append}
use Rattle.sb_tenant.specs.declared.bound.Bound.{Bound}
use Rattle.sb_durable.specs.Records.{Entry as Record}
use Rattle.sb_tenant.specs.declared.reply.Answer.{Answer}
use Rattle.sb_tenant.specs.Limits.{is_session}
use Rattle.sb_tenant.specs.State.{State, opening}
use Rattle.sb_tenant.specs.Step.{step}
use Rattle.sb_tenant.specs.Trail.{Steps, entry_of, is_no_memory, state_after, state_of}
use Rattle.sb_cell.specs.declared.Event.{Event}
use Rattle.sb_cell.specs.declared.StepError.{StepError}
use Rattle.sb_cell.specs.declared.StepError.TheVariants.{NoTenant, NoSession, NotBegun}
use Rattle.sb_cell.specs.Events.{IsTurn, IsEvent}
use Rattle.sb_cell.specs.Tenants.{Cell, IsSame, AnswersBy, AnswersEvent, hosts, trail_of, trails, states}
use Rattle.sb_durable.specs.Restart.{Remembers, made_of, own_record, own_records}
use Rattle.sb_durable.specs.Runs.{record_of_answer, records_of}
use Rattle.sb_durable.proofs.Replaying.{one}

-- ---- lists of records

pub after-append : (t : ℕ) (bound : Bound) (st : State) (xs ys : List (ℕ × List ℕ)) → state_after t bound st (xs ++ ys) ≡ state_after t bound (state_after t bound st xs) ys
after-append t bound st [] ys = refl
after-append t bound st (x ∷ xs) ys = after-append t bound (step t bound st x.0 x.1).0 xs ys

pub made-append : (bound : Bound) (t : ℕ) (records more : List Record) → made_of bound t (records ++ more) ≡ state_after t bound (made_of bound t records) (own_records t more)
made-append bound t records more =
    ap (state_after t bound opening) (filter_map-append (own_record t) records more)
    ∙ after-append t bound opening (own_records t records) (own_records t more)

-- ---- cells

pub hosts_same : (old new : Cell) → IsSame old new → (t : ℕ) → hosts new t ≡ hosts old t
hosts_same old new same t = λ i. (t % same.1 i == same.0 i) && nat_lt (t / same.1 i) (same.3 i)

pub same_then : (a b c : Cell) → IsSame a b → IsSame b c → IsSame a c
same_then a b c one two = (two.0 ∙ one.0, two.1 ∙ one.1, two.2 ∙ one.2, two.3 ∙ one.3)

-- ---- one step

module _ (old new : Cell) (e : Event) (given : Result Answer StepError) where
  -- as an event
  trails_by : (h b : Bool) → AnswersBy h b old e.tenant e.session e.line given new → IsEvent old.bound h b (trails old) e given (trails new)
  trails_by false b p = (p.0, ap trails p.1)
  trails_by true false p = (p.0, ap trails p.1)
  trails_by true true (turn, others, same) = (turn, λ u other. ap trail_of (others u other))

  pub event : AnswersEvent old e.tenant e.session e.line given new → IsEvent old.bound (hosts old e.tenant) (is_session e.session) (trails old) e given (trails new)
  event answers = trails_by (hosts old e.tenant) (is_session e.session) answers

  -- what it is recorded as is of its tenant
  not_own : (u : ℕ) → (u == e.tenant) ≡ false → (g : Result Answer StepError) → own_records u (records_of (e, g)) ≡ []
  not_own u other (Err error) = refl
  not_own u other (Ok answer) = by answer.number
    where
      by : (n : Option ℕ) → own_records u (record_of_answer e answer n) ≡ []
      by None = refl
      by (Some n) = rw other refl

  own : IsTrue (is_session e.session) → (answer : Answer) (n : ℕ) → answer.number ≡ Some n → own_records e.tenant (records_of (e, Ok answer)) ≡ (e.session, cond (is_no_memory answer.reply) (codes "rollback") e.line) ∷ []
  own one answer n is = ap (λ k. own_records e.tenant (record_of_answer e answer k)) is ∙ by (eq-eqb e.tenant e.tenant refl) one
    where
      by : (e.tenant == e.tenant) ≡ true → is_session e.session ≡ true → own_records e.tenant (record_of_answer e answer (Some n)) ≡ (e.session, cond (is_no_memory answer.reply) (codes "rollback") e.line) ∷ []
      by same one = rw (same, one) refl

  -- from what a tenant was, the records lead where the step did
  abbrev Leads : ℕ → Type 0
  Leads u = state_after u old.bound (states old u) (own_records u (records_of (e, given))) ≡ state_of u old.bound (trails new u)

  -- a tenant without a step
  stays : (u : ℕ) → own_records u (records_of (e, given)) ≡ [] → trails new u ≡ trails old u → Leads u
  stays u none same = ap (state_after u old.bound (states old u)) none ∙ ap (state_of u old.bound) (sym same)

  -- the step's own
  moves : IsTrue (is_session e.session) → (answer : Answer) → given ≡ Ok answer → Steps e.tenant old.bound (trails old e.tenant) e.session e.line answer (trails new e.tenant) → Leads e.tenant
  moves one_of answer is (inl (longer, number, next)) =
      ap (state_after e.tenant old.bound (states old e.tenant)) (ap (λ g. own_records e.tenant (records_of (e, g))) is ∙ own one_of answer _ number)
      ∙ (one e.tenant old.bound (states old e.tenant) (state_of e.tenant old.bound (trails new e.tenant)) (entry_of e.session e.line answer.reply) next.1).0
  moves one_of answer is (inr (full, none, same)) =
      stays e.tenant (ap (λ g. own_records e.tenant (records_of (e, g))) is ∙ ap (λ (a : Answer). own_records e.tenant (record_of_answer e answer a.number)) none) same

  turns : IsTrue (is_session e.session) → (g : Result Answer StepError) → given ≡ g → IsTurn old.bound e.tenant (trails old e.tenant) (e.session, e.line) g (trails new e.tenant) → Leads e.tenant
  turns one_of (Ok answer) is turn = moves one_of answer is turn
  turns one_of (Err NotBegun) is turn = stays e.tenant (ap (λ g. own_records e.tenant (records_of (e, g))) is) turn.0
  turns one_of (Err NoTenant) is turn = absurd turn
  turns one_of (Err NoSession) is turn = absurd turn

  refused : (error : StepError) → given ≡ Err error → new ≡ old → (u : ℕ) → Leads u
  refused error is same u = stays u (ap (λ g. own_records u (records_of (e, g))) is) (ap (λ (c : Cell). trails c u) same)

  none_recorded : (error : StepError) → given ≡ Err error → (r : Record) → records_of (e, given) ≡ r ∷ [] → ⊥
  none_recorded error is r recorded = let none : [] ≡ r ∷ [] = ap (λ g. records_of (e, g)) (sym is) ∙ recorded in cc

  leads_by : (h b : Bool) → is_session e.session ≡ b → AnswersBy h b old e.tenant e.session e.line given new → (u : ℕ) → Leads u
  leads_by false b one p u = refused NoTenant p.0 p.1 u
  leads_by true false one p u = refused NoSession p.0 p.1 u
  leads_by true true one (turn, others, same) u = by (u == e.tenant) refl
    where
      by : (b : Bool) → (u == e.tenant) ≡ b → Leads u
      by true is = subst Leads (sym (eqb-true u e.tenant is)) (turns one given refl turn)
      by false is = stays u (not_own u is given) (ap trail_of (others u is))

  pub leads : AnswersEvent old e.tenant e.session e.line given new → (u : ℕ) → Leads u
  leads answers u = leads_by (hosts old e.tenant) (is_session e.session) refl answers u

  -- what is recorded is of a session
  session_by : (h b : Bool) → is_session e.session ≡ b → (r : Record) → records_of (e, given) ≡ r ∷ [] → AnswersBy h b old e.tenant e.session e.line given new → IsTrue (is_session e.session)
  session_by false b one r is p = absurd (none_recorded NoTenant p.0 r is)
  session_by true false one r is p = absurd (none_recorded NoSession p.0 r is)
  session_by true true one r is p = one

  pub is_of_session : (r : Record) → records_of (e, given) ≡ r ∷ [] → AnswersEvent old e.tenant e.session e.line given new → IsTrue (is_session e.session)
  is_of_session r is answers = session_by (hosts old e.tenant) (is_session e.session) refl r is answers

  -- so with its records the journal remembers it
  pub remembers_more : (records : List Record) → Remembers old records → IsSame old new → AnswersEvent old e.tenant e.session e.line given new → Remembers new (records ++ records_of (e, given))
  remembers_more records remembers same answers u hosted =
      subst (λ bound. made_of bound u (records ++ records_of (e, given)) ≡ state_of u bound (trails new u)) (sym same.2)
      (made-append old.bound u records (records_of (e, given))
      ∙ ap (λ st. state_after u old.bound st (own_records u (records_of (e, given)))) (remembers u (subst (λ b. IsTrue b) (hosts_same old new same u) hosted))
      ∙ leads answers u)
