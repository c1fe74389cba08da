-- A run on tenants that a journal made.
use Rattle.std.proofs.Common.{◌≡◌, ◌∙◌, ◌⊎◌, ◌==◌, ◌%◌, ◌/◌, ◌&&◌, ℕ, Bool, true, false, List, Option, Some, None, Result, Ok, Err, nat_lt, is_some, is_ok, inl, inr, sym, ap, subst, IsTrue, arith}
use Rattle.std.proofs.lemmas.Bool.{eq-eqb, false≢true}
use Rattle.std.specs.Prelude.{IfErr, IfSome, OnOk}
use Rattle.std.specs.Io.KnownBytes.{Appends}
use Rattle.sb_tenant.specs.declared.bound.Bound.{Bound}
use Rattle.sqlite_disk.specs.declared.Disk.{Ghosts}
use Rattle.sb_tenant.specs.State.{State}
use Rattle.sb_cell.specs.Tenants.{Cell, IsNew, IsSame, hosts, states}
use Rattle.sb_wire.specs.Apart.{MetNoWant, RunsApart, lines_alone, own_lines, state_alone, tenant_lines}
use Rattle.sb_wire.specs.Lines.{Piece, pieces_of}
use Rattle.sb_wire.specs.declared.fault.StreamError.{StreamError}
use Rattle.sb_durable.specs.Records.{Entry as Record}
use Rattle.sb_durable.specs.Restart.{IsRestarted, restarted}
use Rattle.sb_durable.specs.Runs.{AnswersRecorded, RunsRecorded}
use Rattle.sb_durable.specs.declared.journal_header.Head.{Head}
use Rattle.sb_durable.specs.declared.run.Recording.{Recording}
use Rattle.sb_durable.specs.JournaledRuns.{AnswersJournaled, EndsJournaled, IsBegun, RunsJournaled, StopsOn}
use Rattle.sb_durable.specs.declared.journal_fault.JournalFault.{JournalFault}
use Rattle.sb_durable.specs.declared.journal_fault.JournalFault.TheVariants.{Failed, Stream}

-- a fresh cell on which a restart was made
pub begun_by : (tenants : ℕ) (bound : Bound) (fresh cell : Cell) (records : List Record) → IsNew 0 1 tenants bound fresh → IsSame fresh cell → IsRestarted cell records → IsBegun tenants bound records cell
begun_by tenants bound fresh cell records new same restarts = record {
  hosted = λ t. (λ i. (t % same.1 i == same.0 i) && nat_lt (t / same.1 i) (same.3 i)) ∙ new.hosted t ∙ ap (λ (b : Bool). b && nat_lt t tenants) (first t);
  at_most = same.2 ∙ new.at_most;
  is_restarted = restarts;
}
  where
    first : (t : ℕ) → (t % 1 == 0) ≡ true
    first t = let none : t % 1 ≡ 0 = omega arith in eq-eqb (t % 1) 0 none

-- each tenant is told what it would be told alone, from what its records make
apart_from : (tenants : ℕ) (bound : Bound) (records : List Record) (cell after : Cell) (pieces : List Piece) (text : List ℕ) → IsBegun tenants bound records cell → RunsApart (hosts cell) cell.bound (states cell) pieces text (states after)
    → RunsApart (λ t. nat_lt t tenants) bound (λ t. restarted bound t records) pieces text (states after)
apart_from tenants bound records cell after pieces text begun apart = record {
  lines = apart.lines;
  whole = apart.whole;
  alone = λ t hosted none. by t (subst IsTrue (sym (begun.hosted t)) hosted) none;
}
  where
    Alone : ℕ → Bound → State → Type 0
    Alone t b s = (tenant_lines t apart.lines ≡ lines_alone b t s (own_lines t pieces)) × (states after t ≡ state_alone b t s (own_lines t pieces))

    by : (t : ℕ) → IsTrue (hosts cell t) → MetNoWant t apart.lines → Alone t bound (restarted bound t records)
    by t hosted none =
        subst (λ (s : State). Alone t bound s) (begun.is_restarted t hosted ∙ ap (λ (b : Bound). restarted b t records) begun.at_most)
        (subst (λ (b : Bound). Alone t b (states cell t)) begun.at_most (apart.alone t hosted none))

pub answers_journaled : (tenants : ℕ) (bound : Bound) (records : List Record) (cell after : Cell) (input held holds : Option (List ℕ)) → IsBegun tenants bound records cell
    → IfSome input (λ bytes. (text : List ℕ) × Appends held holds text × AnswersRecorded cell bytes text after)
    → IfSome input (λ bytes. (text : List ℕ) × Appends held holds text × AnswersJournaled tenants bound bytes text)
answers_journaled tenants bound records cell after None held holds begun answers = tt
answers_journaled tenants bound records cell after (Some bytes) held holds begun (text, appends, answers) = (
  text,
  appends,
  record {
    records = records;
    begun = cell;
    is_begun = begun;
    after = after;
    answers = answers;
    apart = apart_from tenants bound records cell after (pieces_of bytes) text begun answers.input_is_answered.apart;
  },
)

-- a stream that ended well
pub went_well : {P : Type 0} (ended : Result (Unit {0}) StreamError) → is_ok ended ≡ true → OnOk ended P → P
went_well (Ok value) is holds = holds
went_well (Err error) is holds = absurd (false≢true is)

-- whatever is known of the journal
any_told : (old new : Cell) (pieces : List Piece) (h0 h1 : Option (List ℕ)) (left : List ℕ) (told_by : Head → Type 0) (crash : List ℕ → Type 0) → RunsRecorded old new pieces h0 h1 left told_by crash
    → RunsRecorded old new pieces h0 h1 left (λ head. ⊥) (λ file. ⊥)
any_told old new pieces h0 h1 left told_by crash r = record {
  told = r.told;
  untold = r.untold;
  split = r.split;
  responses = r.responses;
  answers = r.answers;
  between = r.between;
  answered = r.answered;
  apart = r.apart;
  same = r.same;
  written = r.written;
  whole = r.whole;
  appends = r.appends;
  unanswered = r.unanswered;
  few = r.few;
  last = r.last;
  run = r.run;
  survives = λ head told file left. absurd told;
}

module _ {R W : Type 0} (fails : R → Type 0) (remaining : R → Option (List ℕ)) (contents : W → Option (List ℕ)) (reader rest : R) (writer after : W) where
  -- it stopped behind the answers of some lines
  pub stops_behind : {D : Type 0} (disk : Ghosts D) (tenants : ℕ) (bound : Bound) (old new : Recording D disk) (ended : Result (Unit {0}) StreamError) (why : JournalFault)
      → RunsJournaled fails remaining contents reader rest writer after disk tenants bound old new ended
      → (why ≡ Failed) ⊎ ((is_some new.fault ≡ false) × ((e : StreamError) × (ended ≡ Err e) × (why ≡ Stream e))) → EndsJournaled fails remaining contents reader rest writer after tenants bound why
  stops_behind disk tenants bound old new ended why runs reason = inr (record {
    records = runs.records;
    begun = runs.begun;
    is_begun = runs.is_begun;
    has_failed = is_some new.fault;
    ended = ended;
    stops = record {
      seen = runs.stops.seen;
      reads = runs.stops.reads;
      pieces = runs.stops.pieces;
      left = runs.stops.left;
      stops = runs.stops.stops;
      cell = runs.stops.cell;
      runs = any_told runs.begun runs.stops.cell runs.stops.pieces (contents writer) (contents after) runs.stops.left _ _ runs.stops.runs;
    };
    reason = reason;
  })

  -- by the fault of the journal, or as its stream did
  pub ends_by : {D : Type 0} (disk : Ghosts D) (tenants : ℕ) (bound : Bound) (old new : Recording D disk) (ended : Result (Unit {0}) StreamError) (told : Result (Unit {0}) JournalFault)
      → RunsJournaled fails remaining contents reader rest writer after disk tenants bound old new ended
      → IfErr told (λ why. ((is_some new.fault ≡ true) × (why ≡ Failed)) ⊎ ((is_some new.fault ≡ false) × ((e : StreamError) × (ended ≡ Err e) × (why ≡ Stream e))))
      → IfErr told (EndsJournaled fails remaining contents reader rest writer after tenants bound)
  ends_by disk tenants bound old new ended (Ok value) runs reason = tt
  ends_by disk tenants bound old new ended (Err why) runs (inl failed) = stops_behind disk tenants bound old new ended why runs (inl failed.1)
  ends_by disk tenants bound old new ended (Err why) runs (inr stopped) = stops_behind disk tenants bound old new ended why runs (inr stopped)
