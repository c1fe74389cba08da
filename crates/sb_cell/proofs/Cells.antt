-- A cell after a call of one of its tenants: what holds of it at any time still holds, and the line is answered as an event.
use Rattle.std.proofs.Common.{◌≡◌, ℕ, ◌+◌, ◌*◌, ◌/◌, ◌%◌, suc, ◌<◌, ◌≤◌, Bool, true, false, cond, ◌&&◌, ◌==◌, nat_lt, nat_le, not, codes, List, [], ◌∷◌, length, filter, slice_set, Option, Some, None, Result, IsFalse, refl, sym, ap, ◌∙◌, subst, arith, length-set}
use Rattle.std.specs.List.{slice_get}
use Rattle.std.proofs.lemmas.Bool.{true≢false, eqb-true, eqb-false, ne_eqb}
use Rattle.std.proofs.lemmas.List.Sums.{sum_by-cons}
use Rattle.std.proofs.lemmas.Option.{same_Some}
use Rattle.sb_tenant.specs.declared.bound.Bound.{Bound}
use Rattle.sb_value.specs.declared.id.Who.{Who}
use Rattle.sb_value.specs.NetEffect.{is_triggered}
use Rattle.sb_rawlog.specs.Records.{Record, before}
use Rattle.sb_rawlog.specs.Sessions.{OthersStay, changes, records_by}
use Rattle.sb_index.specs.TableSets.{TableSets}
use Rattle.sb_catalog.specs.Definitions.{AreIndexed, OtherTenantsStay}
use Rattle.sb_catalog.specs.declared.rule.Rule.{Rule}
use Rattle.sb_process.specs.Represents.{AreUntriggered}
use Rattle.sb_process.specs.Transactions.{Kept, mark_of, tested_of}
use Rattle.sb_tenant.specs.declared.reply.Answer.{Answer}
use Rattle.sb_tenant.specs.declared.reply.Entry.{Entry}
use Rattle.sb_value.specs.Name.{same_name}
use Rattle.sb_tenant.specs.Limits.{entry_limit, is_session, trail_limit}
use Rattle.sb_tenant.specs.Logged.{who_of}
use Rattle.sb_tenant.specs.Tenant.{Tenant, IsLegal, AnswersLine, LeavesLine, MakesStep, state}
use Rattle.sb_tenant.specs.Lending.{InStep, StaysInStep, rise_of_number}
use Rattle.sb_tenant.specs.State.{session_at, is_open}
use Rattle.sb_tenant.specs.Step.{is_end_of_open}
use Rattle.sb_tenant.specs.TrailLaws.{TrailsAreBounded}
use Rattle.sb_cell.specs.declared.StepError.{StepError}
use Rattle.sb_cell.specs.Events.{IsTurn}
use Rattle.sb_cell.specs.Hosting.{IsAt, IsHosted, entry_count}
use Rattle.sb_cell.specs.Tenants.{Cell, IsSame, AnswersBy, hosts, tenant_at, trail_of, trails}
use Rattle.sb_cell.proofs.Hosted.{set-own, set-other, place_of, number_of, within, by_place, number_is}

-- ---- a tenant beside another's call

-- what a session's rules were tested for is what the log has of it
still_untriggered : (who : Who) (kept : Kept) (old new : List Record) → records_by who new ≡ records_by who old → (rules : List Rule) →
    AreUntriggered who kept old rules → AreUntriggered who kept new rules
still_untriggered who kept old new own [] h = tt
still_untriggered who kept old new own (rule ∷ rules) h = (
  ap (λ (rs : List Record). is_triggered rule.triggers rule.table (changes (filter (λ r. nat_le (mark_of kept who.session rule.id) r.0 && nat_lt r.0 (tested_of kept who.session rule.id)) rs))) own ∙ h.0,
  still_untriggered who kept old new own rules h.1,
)

-- what another tenant's session does leaves a tenant in step
stays_in_step : (w : Tenant) (id s : ℕ) (records records' : List Record) (clock clock' : ℕ) (index index' : List (List TableSets)) → (w.id ≡ id → ⊥) →
    OthersStay (who_of id s) records records' → clock ≤ clock' → OtherTenantsStay id index index' → InStep w records clock index → InStep w records' clock' index'
stays_in_step w id s records records' clock clock' index index' other stay rises tenants in_step = record {
  transactions = λ o is_one. ap changes (own o) ∙ in_step.transactions o is_one;
  marks = λ o is_one rule.
      let was = in_step.marks o is_one rule in
      (omega (arith, was.0), ap (λ (rs : List Record). length (before (mark_of w.transactions o rule) rs)) (own o) ∙ was.1);
  past = λ o is_one rule. let was = in_step.past o is_one rule in (was.0, omega (arith, was.1, rises));
  untriggered = λ o is_one. still_untriggered (who_of w.id o) w.transactions records records' (own o) (state w).catalog.rules (in_step.untriggered o is_one);
  indexed = λ table operation rule. tenants w.id table operation rule (ne_eqb w.id id other) ∙ in_step.indexed table operation rule;
}
  where
    own : (o : ℕ) → records_by (who_of w.id o) records' ≡ records_by (who_of w.id o) records
    own o = stay (who_of w.id o) (λ same. other (ap (λ (who : Who). who.tenant) same))

-- ---- a call of one tenant

-- what a call in a session of the tenant leaves
pub record IsCalled (c : Cell) (t s n : ℕ) (w new : Tenant) (records' : List Record) (clock' : ℕ) (index' : List (List TableSets)) : Type 0 where
  pub hosted : hosts c t ≡ true
  pub is_one : is_session s ≡ true
  pub at : slice_get c.tenants (t / c.stride) ≡ Some w
  pub same : (new.id ≡ w.id) × (new.bound ≡ w.bound)
  pub legal : IsLegal new
  pub stays : StaysInStep n w new s c.records records' c.clock clock' c.index index'

module _ (c : Cell) (h : IsHosted c) (t s n : ℕ) (w new : Tenant) (records' : List Record) (clock' : ℕ) (index' : List (List TableSets)) (call : IsCalled c t s n w new records' clock' index') where
  abbrev place : ℕ
  place = t / c.stride

  abbrev pub after : Cell
  after = record c { tenants = slice_set c.tenants (t / c.stride) new; records = records'; clock = clock'; index = index' }

  inside : place < length c.tenants
  inside = within c t call.hosted

  was : IsAt c place w
  was = h.tenants place w call.at

  pub id_is : w.id ≡ t
  id_is = was.id ∙ number_is c t h call.hosted

  same_hosts : (u : ℕ) → hosts after u ≡ hosts c u
  same_hosts u = ap (λ k. (u % c.stride == c.first) && nat_lt (u / c.stride) k) (length-set c.tenants place new)

  -- ---- what holds at any time

  here : IsAt after place new
  here = record { id = call.same.0 ∙ was.id; bound = call.same.1 ∙ was.bound; legal = call.legal; in_step = call.stays.in_step }

  beside : (o : ℕ) → (o ≡ place → ⊥) → (v : Tenant) → IsAt c o v → IsAt after o v
  beside o other v is = record {
    id = is.id;
    bound = is.bound;
    legal = is.legal;
    in_step =
        stays_in_step v w.id s c.records records' c.clock clock' c.index index' (λ same. other (place_of c.first c.stride o place h.first (sym is.id ∙ same ∙ was.id))) call.stays.others call.stays.rises.0
        call.stays.tenants is.in_step;
  }

  tenants_at : (o : ℕ) (v : Tenant) → slice_get (slice_set c.tenants place new) o ≡ Some v → IsAt after o v
  tenants_at o v at =
      elim (o == place) as (λ b. (o == place) ≡ b → IsAt after o v) [
        | true ↦ λ same.
            let o_is = eqb-true o place same in
            let v_is : new ≡ v = same_Some new v (sym (set-own c.tenants place new inside) ∙ ap (slice_get (slice_set c.tenants place new)) (sym o_is) ∙ at) in
            subst (λ (x : Tenant). IsAt after o x) v_is (subst (λ (k : ℕ). IsAt after k new) (sym o_is) here)
        | false ↦ λ other.
            let no = eqb-false o place other in
            beside o no v (h.tenants o v (sym (set-other c.tenants place o new no) ∙ at))
      ] refl

  no_records : (who : Who) → IsFalse (hosts after who.tenant && is_session who.session) → records_by who records' ≡ []
  no_records who none = call.stays.others who (λ same. true≢false (sym (own same) ∙ none_before)) ∙ h.records who none_before
    where
      none_before : (hosts c who.tenant && is_session who.session) ≡ false
      none_before = ap (λ b. b && is_session who.session) (sym (same_hosts who.tenant)) ∙ none

      own : who ≡ who_of w.id s → (hosts c who.tenant && is_session who.session) ≡ true
      own same = ap (λ (v : Who). hosts c v.tenant && is_session v.session) (same ∙ ap (λ i. who_of i s) id_is) ∙ ap (λ b. b && is_session s) call.hosted ∙ call.is_one

  no_rules : (u : ℕ) → IsFalse (hosts after u) → AreIndexed index' u []
  no_rules u none = λ table operation rule. call.stays.tenants u table operation rule (ne_eqb u w.id other) ∙ h.rules u none_before table operation rule
    where
      none_before : hosts c u ≡ false
      none_before = sym (same_hosts u) ∙ none

      other : u ≡ w.id → ⊥
      other same = true≢false (sym call.hosted ∙ ap (hosts c) (sym id_is ∙ sym same) ∙ none_before)

  pub after_hosted : IsHosted after
  after_hosted = record {
    first = h.first;
    few = subst (λ k. k ≤ 256) (sym (length-set c.tenants place new)) h.few;
    tenants = tenants_at;
    records = no_records;
    rules = no_rules;
  }

  -- ---- the event

  pub own : tenant_at after t ≡ Some new
  own = by_place after t (same_hosts t ∙ call.hosted) ∙ set-own c.tenants place new inside

  pub own_before : tenant_at c t ≡ Some w
  own_before = by_place c t call.hosted ∙ call.at

  pub others : (u : ℕ) → IsFalse (u == t) → tenant_at after u ≡ tenant_at c u
  others u other =
      elim (u % c.stride == c.first) as (λ b. (u % c.stride == c.first) ≡ b → cond b (slice_get (slice_set c.tenants place new) (u / c.stride)) None ≡ cond b (slice_get c.tenants (u / c.stride)) None) [
        | true ↦ λ class. set-other c.tenants place (u / c.stride) new (λ same. eqb-false u t other (sym (number_of c.first c.stride u h.first class) ∙ ap (λ k. c.first + c.stride * k) same ∙ number_is c t h call.hosted))
        | false ↦ λ class. refl
      ] refl

  pub is_same : IsSame c after
  is_same = (refl, refl, refl, length-set c.tenants place new)

  -- the turn is that of the tenant
  pub event : (line : List ℕ) (given : Result Answer StepError) → IsTurn w.bound w.id w.trail (s, line) given new.trail → AnswersBy (hosts c t) (is_session s) c t s line given after
  event line given turn =
      subst (λ (a : Bool). AnswersBy a (is_session s) c t s line given after) (sym call.hosted)
      (subst (λ (b : Bool). AnswersBy true b c t s line given after) (sym call.is_one) (by_trails, others, is_same))
    where
      by_trails : IsTurn c.bound t (trails c t) (s, line) given (trails after t)
      by_trails =
          subst (λ (es : List Entry). IsTurn c.bound t es (s, line) given (trails after t)) (ap trail_of (sym own_before))
          (subst (λ (es : List Entry). IsTurn c.bound t w.trail (s, line) given es) (ap trail_of (sym own))
          (subst (λ (k : Bound). IsTurn k t w.trail (s, line) given new.trail) was.bound
          (subst (λ (i : ℕ). IsTurn w.bound i w.trail (s, line) given new.trail) id_is turn)))

-- ---- the calls

module _ (c : Cell) (t s : ℕ) (w new : Tenant) (records' : List Record) (clock' : ℕ) (index' : List (List TableSets)) (hosted : hosts c t ≡ true) (is_one : is_session s ≡ true) (at : slice_get c.tenants (t / c.stride) ≡ Some w) (legal : IsLegal new) where
  pub answered : (line : List ℕ) (a : Answer) → AnswersLine w s line a new → StaysInStep (rise_of_number a.number) w new s c.records records' c.clock clock' c.index index' →
      IsCalled c t s (rise_of_number a.number) w new records' clock' index'
  answered line a answers stays = record { hosted = hosted; is_one = is_one; at = at; same = (answers.0.0, answers.0.1); legal = legal; stays = stays }

  pub unbegun : (line : List ℕ) → LeavesLine w s line new → StaysInStep 0 w new s c.records records' c.clock clock' c.index index' → IsCalled c t s 0 w new records' clock' index'
  unbegun line left stays = record {
    hosted = hosted;
    is_one = is_one;
    at = at;
    same = (ap (λ (v : Tenant). v.id) left.0, ap (λ (v : Tenant). v.bound) left.0);
    legal = legal;
    stays = stays;
  }

  pub stepped : (line : List ℕ) (a : Answer) → MakesStep w s line a new → StaysInStep 0 w new s c.records records' c.clock clock' c.index index' → IsCalled c t s 0 w new records' clock' index'
  stepped line a made stays = record { hosted = hosted; is_one = is_one; at = at; same = (made.0.0, made.0.1); legal = legal; stays = stays }

-- a call that touches neither the log nor the index
pub untouched : (w new : Tenant) (s : ℕ) (records : List Record) (clock : ℕ) (index : List (List TableSets)) → InStep new records clock index → StaysInStep 0 w new s records records clock clock index index
untouched w new s records clock index in_step = record {
  in_step = in_step;
  others = λ other different. refl;
  rises = (omega arith, omega arith);
  tenants = λ n table operation rule other. refl;
}

-- an opening that isn't begun
pub open_left : (w new : Tenant) (s : ℕ) → is_open (session_at (state w) s) ≡ false → nat_le trail_limit (state w).steps ≡ false → new ≡ w → LeavesLine w s (codes "open") new
open_left w new s shut room same = (
  same,
  (
    ap (λ (v : Tenant). v.trail) same,
    (ap (λ b. b && not (is_end_of_open (state w) s (codes "open"))) room, ap (λ b. b && same_name (codes "open") (codes "end")) shut),
  ),
)

-- ---- how many entries there are

pub few_entries : ((tenant : ℕ) (bound : Bound) → TrailsAreBounded tenant bound) → (tenants : List Tenant) → ((place : ℕ) (v : Tenant) → slice_get tenants place ≡ Some v → IsLegal v) → entry_count tenants ≤ entry_limit * length tenants
few_entries bounded [] legal = omega arith
few_entries bounded (v ∷ vs) legal =
    let own = bounded v.id v.bound v.trail (state v) (legal 0 v refl) in
    let rest = few_entries bounded vs (λ place u at. legal (suc place) u at) in
    let one_more = sum_by-cons (λ (u : Tenant). length u.trail) v vs in
    omega (arith, own, rest, one_more)
