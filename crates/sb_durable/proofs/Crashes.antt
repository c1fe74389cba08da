-- What a crash leaves of lines that are answered one after another.
use Rattle.std.proofs.Common.{◌≡◌, ◌⊎◌, ℕ, suc, ◌≤◌, ◌+◌, Bool, true, false, List, [], ◌∷◌, ◌++◌, length, map, flat_map, Option, Some, None, Result, Ok, Err, is_some, codes, IfSome, OnOk, ◌<◌, refl, sym, ap, ◌∙◌, subst, inl, inr, arith, append_assoc, append-nil, IsTrue}
use Rattle.std.specs.List.{AllByRecursion}
use Rattle.std.proofs.lemmas.Bool.{true≢false}
use Rattle.sb_tenant.specs.declared.bound.Bound.{Bound}
use Rattle.sqlite_disk.specs.declared.Disk.{Ghosts}
use Rattle.sb_durable.specs.Journal.{Has, Keeps, disk_of}
use Rattle.sb_durable.specs.Records.{Entry as Record, IsEntry}
use Rattle.sb_durable.specs.declared.journal_header.Head.{Head}
use Rattle.sb_tenant.specs.declared.reply.Answer.{Answer}
use Rattle.sb_tenant.specs.declared.reply.Entry.{Entry}
use Rattle.sb_tenant.specs.State.{State}
use Rattle.sb_tenant.specs.Trail.{state_of}
use Rattle.sb_cell.specs.declared.StepError.{StepError}
use Rattle.sb_cell.specs.Events.{AreEvents}
use Rattle.sb_cell.specs.Tenants.{AnswersEvent, Cell, IsSame, hosts, states, trails}
use Rattle.sb_wire.specs.Counts.{Response, step_reply, line_refusal, response_text}
use Rattle.sb_wire.specs.Lines.{Addressed, Piece, addressed_of, line, pieces_of, too_long}
use Rattle.sb_wire.specs.Output.{AreAnswers, IsAnswer, answer_text, no_address, prefixed, reply_to_line, reply_to_piece}
use Rattle.sb_wire.proofs.Answers.{addressed_answer}
use Rattle.sb_wire.proofs.Apart.{runs-apart}
use Rattle.sb_wire.proofs.Exact.{exact}
use Rattle.sb_wire.specs.Responses.{AnswersLines, AreAnswered, StopsBy}
use Rattle.sb_wire.specs.declared.fault.StreamError.{StreamError}
use Rattle.sb_wire.specs.declared.refusal.WireRefusal.{WireRefusal}
use Rattle.std.specs.Io.KnownBytes.{Appends, Consumes, IsAtEnd}
use Rattle.sb_cell.specs.Headline.{IsRun}
use Rattle.sb_durable.specs.Recorded.{Adds, Answers, Fails, Makes, Responds, records_by}
use Rattle.sb_durable.specs.Restart.{AreRecords, Remembers, Tells, ended, restarted}
use Rattle.sb_durable.specs.Runs.{AnswersRecorded, AreResponses, IsRespondedBy, IsResponse, RunsRecorded, Step, run_by, Survives, event_of, records_of, step_of, steps_of}
use Rattle.sb_durable.specs.declared.run.Recording.{Recording}
use Rattle.sb_durable.proofs.Steps.{event, hosts_same, remembers_more, same_then}

pub are-append : (xs ys : List Record) → AreRecords xs → AreRecords ys → AreRecords (xs ++ ys)
are-append [] ys first then = then
are-append (x ∷ xs) ys first then = (first.0, are-append xs ys first.1 then)

-- ---- by the bound and the tenants of a cell

abbrev Kind : Type 0
Kind = Bound × (ℕ → Bool)

abbrev kind_of : Cell → Kind
kind_of c = (c.bound, hosts c)

kind : (old new : Cell) → IsSame old new → kind_of new ≡ kind_of old
kind old new same = λ i. let k : Kind = (same.2 i, λ t. hosts_same old new same t i) in k

events_as : (old new : Cell) → IsSame old new → (before : ℕ → List Entry) (steps : List Step) (after : ℕ → List Entry)
    → AreEvents new.bound (hosts new) before (map (λ p. p.0) steps) (map (λ p. p.1) steps) after → AreEvents old.bound (hosts old) before (map (λ p. p.0) steps) (map (λ p. p.1) steps) after
events_as old new same before steps after events = subst (λ (k : Kind). AreEvents k.0 k.1 before (map (λ p. p.0) steps) (map (λ p. p.1) steps) after) (kind old new same) events

-- ---- what a crash leaves

-- all of the records
survives_all : (cell : Cell) (more : List Step) (head : Head) (file : List ℕ) (records : List Record) → AreRecords records → Remembers cell records → Keeps head records file → Survives cell more 0 head file
survives_all cell more head file records are remembers keeps = record {
  first = [];
  more = more;
  split = refl;
  enough = omega arith;
  between = trails cell;
  run = refl;
  records = records;
  are = are;
  keeps = keeps;
  states = λ t hosted. ap (ended cell.bound t) (remembers t hosted);
}

-- a step before them
survives_then : (old mid : Cell) (step : Step) → IsSame old mid → Makes (Some step) old mid → (steps : List Step) (n : ℕ) (head : Head) (file : List ℕ) → Survives mid steps n head file → Survives old (step ∷ steps) (suc n) head file
survives_then old mid step same makes steps n head file s = record {
  first = step ∷ s.first;
  more = s.more;
  split = ap (λ (l : List Step). step ∷ l) s.split;
  enough = omega (arith, s.enough);
  between = s.between;
  run = (trails mid, event old mid step.0 step.1 makes, events_as old mid same (trails mid) s.first s.between s.run);
  records = s.records;
  are = s.are;
  keeps = s.keeps;
  states = subst (λ (k : Kind). (t : ℕ) → IsTrue (k.1 t) → restarted k.0 t s.records ≡ ended k.0 t (state_of t k.0 (s.between t))) (kind old mid same) s.states;
}

survives_fewer : (cell : Cell) (steps : List Step) (m n : ℕ) (head : Head) (file : List ℕ) → m ≤ n → Survives cell steps n head file → Survives cell steps m head file
survives_fewer cell steps m n head file few s =
    record { first = s.first; more = s.more; split = s.split; enough = omega (arith, few, s.enough); between = s.between; run = s.run; records = s.records; are = s.are; keeps = s.keeps; states = s.states }

-- ---- line by line

remembers_by : (s : Option Step) (old new : Cell) (records : List Record) → Makes s old new → IsSame old new → Remembers old records → Remembers new (records ++ records_by s)
remembers_by None old new records is same remembers = subst (λ (c : Cell). Remembers c (records ++ [])) (sym is) (subst (Remembers old) (sym (append-nil records)) remembers)
remembers_by (Some step) old new records makes same remembers = remembers_more old new step.0 step.1 records remembers same makes

-- ---- each tenant as if it were alone

abbrev answers_as : Kind → Cell → Piece → List ℕ → Cell → Type 0
answers_as k old p text new = IsAnswer k.1 k.0 (states old) p text (states new)

-- a refused line leaves all as it was
refused : (hosts : ℕ → Bool) (bound : Bound) (before : ℕ → State) (p : Piece) (r : WireRefusal) → IsResponse p (line_refusal r) → reply_to_piece hosts bound before p ≡ (response_text (line_refusal r), before)
refused hosts bound before too_long r is = λ i. (response_text (sym is i), before)
refused hosts bound before (line bytes) r fits = by (addressed_of bytes) refl fits
  where
    reply_found : Option Addressed → List ℕ × (ℕ → State)
    reply_found o = elim o [ None ↦ (prefixed no_address (codes "no 12 BadLine" ∷ []), before) | Some a ↦ reply_to_line hosts bound before a ]

    by : (found : Option Addressed) → addressed_of bytes ≡ found → IsRespondedBy found (line_refusal r) → reply_to_piece hosts bound before (line bytes) ≡ (response_text (line_refusal r), before)
    by None none is = ap reply_found none ∙ (λ i. (response_text (sym is i), before))
    by (Some own) there (given, is) = cc

-- the step of a line with numbers answers it
stepped : (old new : Cell) (p : Piece) (own : Addressed) (given : Result Answer StepError) → IsResponse p (step_reply own given) → AnswersEvent old own.tenant own.session own.command given new → answers_as (kind_of old) old p (answer_text own given) new
stepped old new too_long own given is event = cc
stepped old new (line bytes) own given fits event = by (addressed_of bytes) refl fits
  where
    by : (found : Option Addressed) → addressed_of bytes ≡ found → IsRespondedBy found (step_reply own given) → answers_as (kind_of old) old (line bytes) (answer_text own given) new
    by None none is = cc
    by (Some other) there (told, is) =
        let same : own ≡ other = cc in
        addressed_answer own old new bytes given (there ∙ ap (λ (a : Addressed). Some a) (sym same)) event

-- a line's response is the definition's answer to it
response_is : (old new : Cell) (p : Piece) (response : Response) → IsResponse p response → Makes (step_of response) old new → answers_as (kind_of old) old p (response_text response) new
response_is old new p (line_refusal r) fits makes = inl (refused (hosts old) old.bound (states old) p r fits ∙ (λ i. (response_text (line_refusal r), states (sym makes i))))
response_is old new p (step_reply own given) fits makes = stepped old new p own given fits makes

-- from one cell, the lines are answered by this text, and these states are left
pub record Told (old new : Cell) (told : List Piece) (text : List ℕ) (unanswered : List Step) : Type 0 where
  pub between : ℕ → State
  pub answered : AreAnswers (hosts old) old.bound (states old) told text between
  pub same : IsSame old new
  pub last : unanswered ≡ [] → between ≡ states new

told_none : (old new : Cell) (unanswered : List Step) (text : List ℕ) → text ≡ [] → IsSame old new → (unanswered ≡ [] → new ≡ old) → Told old new [] text unanswered
told_none old new unanswered text nothing same last = record { between = states old; answered = (nothing, refl); same = same; last = λ none. ap states (sym (last none)) }

told_then : (old mid new : Cell) (p : Piece) (ps : List Piece) (first rest text : List ℕ) (response : Response) (unanswered : List Step) → text ≡ first ++ rest → IsSame old mid → first ≡ response_text response → IsResponse p response
    → Makes (step_of response) old mid → Told mid new ps rest unanswered → Told old new (p ∷ ps) text unanswered
told_then old mid new p ps first rest text response unanswered is same said fits makes next = record {
  between = next.between;
  answered = (
    first,
    rest,
    states mid,
    is,
    subst (λ (t : List ℕ). answers_as (kind_of old) old p t mid) (sym said) (response_is old mid p response fits makes),
    subst (λ (k : Kind). AreAnswers k.1 k.0 (states mid) ps rest next.between) (kind old mid same) next.answered,
  );
  same = same_then old mid new same next.same;
  last = next.last;
}

-- the lines so far are answered by this text
pub record Goes (old new : Cell) (stops : Bool) (pieces : List Piece) (text : List ℕ) (told_by : Head → Type 0) (crash : List ℕ → Type 0) : Type 0 where
  pub told : List Piece
  pub untold : List Piece
  pub split : pieces ≡ told ++ untold
  pub responses : List Response
  pub answers : AreResponses told responses
  pub text_is : flat_map response_text responses ≡ text
  pub unanswered : List Step
  pub few : length unanswered ≤ 1
  pub alone : Told old new told text unanswered
  pub run : AreEvents old.bound (hosts old) (trails old) (map (λ p. p.0) (steps_of responses ++ unanswered)) (map (λ p. p.1) (steps_of responses ++ unanswered)) (trails new)
  pub survives : (head : Head) → told_by head → (file : List ℕ) → crash file → Survives old (steps_of responses ++ unanswered) (length (steps_of responses)) head file
  pub whole : stops ≡ false → (untold ≡ []) × (unanswered ≡ [])

module _ {D : Type 0} {g : Ghosts D} (seen : D → List ℕ) (may_leave : D → List ℕ → Type 0) where
  abbrev stopped : Cell × Recording D g → Bool
  stopped s = is_some s.1.fault

  abbrev crash : Cell × Recording D g → List ℕ → Type 0
  crash s file = may_leave (disk_of s.1.journal) file

  abbrev ToldBy : Cell × Recording D g → Head → Type 0
  ToldBy s head = Tells seen may_leave s.1.journal head s.0

  abbrev pub GoesTo : Cell × Recording D g → Cell × Recording D g → List Piece → List ℕ → Type 0
  GoesTo old new pieces text = Goes old.0 new.0 (stopped new) pieces text (ToldBy old) (crash new)

  abbrev pub Kept : Cell × Recording D g → Type 0
  Kept new = (head : Head) (records : List Record) → Has seen may_leave new.1.journal head records [] → (file : List ℕ) → crash new file → Keeps head records file

  -- a journal with the records of a step more tells what the tenants are then
  pub tells_more : (s : Option Step) (old new : Cell × Recording D g) (head : Head) → Makes s old.0 new.0 → IsSame old.0 new.0 → Adds seen may_leave old.1.journal (records_by s) new.1.journal → ToldBy old head → ToldBy new head
  tells_more s old new head makes same adds tells =
      let more = adds head tells.records tells.has in record {
        records = tells.records ++ records_by s;
        are = are-append tells.records (records_by s) tells.are more.0;
        remembers = remembers_by s old.0 new.0 tells.records makes same tells.remembers;
        has = more.1;
      }

  none : (old new : Cell × Recording D g) (text : List ℕ) → text ≡ [] → new ≡ old → Kept new → GoesTo old new [] text
  none old new text nothing same kept = record {
    told = [];
    untold = [];
    split = refl;
    responses = [];
    answers = tt;
    text_is = sym nothing;
    unanswered = [];
    few = omega arith;
    alone = told_none old.0 new.0 [] text nothing (subst (λ (s : Cell × Recording D g). IsSame old.0 s.0) (sym same) (refl, refl, refl, refl)) (λ _. ap (λ (s : Cell × Recording D g). s.0) same);
    run = ap (λ (s : Cell × Recording D g). trails s.0) same;
    survives =
        λ head tells file left. survives_all old.0 [] head file tells.records tells.are tells.remembers
        (kept head tells.records (subst (λ (s : Cell × Recording D g). Has seen may_leave s.1.journal head tells.records []) (sym same) tells.has) file left);
    whole = λ goes. (refl, refl);
  }

  -- a line is answered, and then the others
  line_then : (old mid new : Cell × Recording D g) (p : Piece) (ps : List Piece) (first rest text : List ℕ) (response : Response) → text ≡ first ++ rest → IsSame old.0 mid.0
      → Answers seen may_leave old response first mid → IsResponse p response → GoesTo mid new ps rest → GoesTo old new (p ∷ ps) text
  line_then old mid new p ps first rest text (line_refusal r) is same answers fits next = record {
    told = p ∷ next.told;
    untold = next.untold;
    split = ap (λ (l : List Piece). p ∷ l) next.split;
    responses = line_refusal r ∷ next.responses;
    answers = (fits, next.answers);
    text_is = ap (λ (t : List ℕ). response_text (line_refusal r) ++ t) next.text_is ∙ ap (λ (t : List ℕ). t ++ rest) (sym answers.told) ∙ sym is;
    unanswered = next.unanswered;
    few = next.few;
    alone = told_then old.0 mid.0 new.0 p next.told first rest text (line_refusal r) next.unanswered is same answers.told fits answers.makes next.alone;
    run = subst (λ (c : Cell). AreEvents c.bound (hosts c) (trails c) (map (λ p. p.0) (steps_of next.responses ++ next.unanswered)) (map (λ p. p.1) (steps_of next.responses ++ next.unanswered)) (trails new.0)) answers.makes next.run;
    survives =
        λ head tells file left. subst (λ (c : Cell). Survives c (steps_of next.responses ++ next.unanswered) (length (steps_of next.responses)) head file) answers.makes
        (next.survives head (tells_more None old mid head answers.makes same answers.adds tells) file left);
    whole = next.whole;
  }
  line_then old mid new p ps first rest text (step_reply own given) is same answers fits next = record {
    told = p ∷ next.told;
    untold = next.untold;
    split = ap (λ (l : List Piece). p ∷ l) next.split;
    responses = step_reply own given ∷ next.responses;
    answers = (fits, next.answers);
    text_is = ap (λ (t : List ℕ). response_text (step_reply own given) ++ t) next.text_is ∙ ap (λ (t : List ℕ). t ++ rest) (sym answers.told) ∙ sym is;
    unanswered = next.unanswered;
    few = next.few;
    alone = told_then old.0 mid.0 new.0 p next.told first rest text (step_reply own given) next.unanswered is same answers.told fits answers.makes next.alone;
    run = (trails mid.0, event old.0 mid.0 (event_of own) given answers.makes, events_as old.0 mid.0 same (trails mid.0) (steps_of next.responses ++ next.unanswered) (trails new.0) next.run);
    survives =
        λ head tells file left. survives_then old.0 mid.0 (event_of own, given) same answers.makes (steps_of next.responses ++ next.unanswered) (length (steps_of next.responses)) head file
        (next.survives head (tells_more (Some (event_of own, given)) old mid head answers.makes same answers.adds tells) file left);
    whole = next.whole;
  }

  -- a step can't be recorded, and it is the last
  line_fails : (old mid new : Cell × Recording D g) (p : Piece) (ps : List Piece) (first rest text : List ℕ) → text ≡ first ++ rest → IsSame old.0 mid.0 → Fails seen may_leave old first mid
      → AreAnswered (Responds seen may_leave) stopped mid ps rest new → GoesTo old new (p ∷ ps) text
  line_fails old mid new p (q ∷ ps) first rest text is same fails (a, b, c, d, going, e, f) = absurd (true≢false (sym fails.stops ∙ going))
  line_fails old mid new p [] first rest text is same fails (nothing, last) = record {
    told = [];
    untold = p ∷ [];
    split = refl;
    responses = [];
    answers = tt;
    text_is = sym (is ∙ ap (λ (t : List ℕ). t ++ rest) fails.untold ∙ nothing);
    unanswered = fails.step ∷ [];
    few = omega arith;
    alone = told_none old.0 new.0 (fails.step ∷ []) text (is ∙ ap (λ (t : List ℕ). t ++ rest) fails.untold ∙ nothing) (subst (λ (s : Cell × Recording D g). IsSame old.0 s.0) (sym last) same) (λ none. cc);
    run = (trails mid.0, event old.0 mid.0 fails.step.0 fails.step.1 fails.makes, ap (λ (s : Cell × Recording D g). trails s.0) last);
    survives = λ head tells file left. by head tells file (fails.may_add head tells.records tells.has file (subst (λ (s : Cell × Recording D g). crash s file) last left));
    whole = λ goes. absurd (true≢false (sym fails.stops ∙ ap stopped (sym last) ∙ goes));
  }
    where
      by : (head : Head) (tells : ToldBy old head) (file : List ℕ) → Keeps head tells.records file ⊎ (AreRecords (records_of fails.step) × Keeps head (tells.records ++ records_of fails.step) file) → Survives old.0 (fails.step ∷ []) 0 head file
      by head tells file (inl before) = survives_all old.0 (fails.step ∷ []) head file tells.records tells.are tells.remembers before
      by head tells file (inr (more, after)) =
          survives_fewer old.0 (fails.step ∷ []) 0 1 head file (omega arith)
          (survives_then old.0 mid.0 fails.step same fails.makes [] 0 head file
          (survives_all mid.0 [] head file (tells.records ++ records_of fails.step) (are-append tells.records (records_of fails.step) tells.are more)
          (remembers_more old.0 mid.0 fails.step.0 fails.step.1 tells.records tells.remembers same fails.makes) after))

  pub goes : (old : Cell × Recording D g) (pieces : List Piece) (text : List ℕ) (new : Cell × Recording D g) → AreAnswered (Responds seen may_leave) stopped old pieces text new → Kept new → GoesTo old new pieces text
  goes old [] text new (nothing, same) kept = none old new text nothing same kept
  goes old (p ∷ ps) text new (first, rest, mid, is, going, (same, inl (response, fits, answers)), others) kept =
      line_then old mid new p ps first rest text response is same answers fits (goes mid ps rest new others kept)
  goes old (p ∷ ps) text new (first, rest, mid, is, going, (same, inr fails), others) kept = line_fails old mid new p ps first rest text is same fails others

-- ---- a whole stream

pub read_all : (rest : Option (List ℕ)) (bytes seen : List ℕ) → Consumes (Some bytes) rest seen → IsAtEnd rest → seen ≡ bytes
read_all None bytes seen reads at_end = absurd reads
read_all (Some left) bytes seen reads at_end = sym (reads ∙ ap (λ (t : List ℕ). seen ++ t) at_end ∙ append-nil seen)

module _ {D : Type 0} {g : Ghosts D} (seen : D → List ℕ) (may_leave : D → List ℕ → Type 0) where
  pub runs : (old new : Cell × Recording D g) (pieces : List Piece) (h0 h1 : Option (List ℕ)) (left : List ℕ) → AnswersLines (Responds seen may_leave) (λ s. is_some s.1.fault) old h0 [] pieces new h1 left → Kept seen may_leave new
      → (r : RunsRecorded old.0 new.0 pieces h0 h1 left (λ head. Tells seen may_leave old.1.journal head old.0) (may_leave (disk_of new.1.journal))) × (is_some new.1.fault ≡ false → (r.untold ≡ []) × (r.unanswered ≡ []))
  runs old new pieces h0 h1 left lines kept =
      let all = goes seen may_leave old pieces lines.text new lines.answered kept in
      let answered = subst (λ (t : List ℕ). AreAnswers (hosts old.0) old.0.bound (states old.0) all.told t all.alone.between) (sym all.text_is) all.alone.answered in (
        record {
          told = all.told;
          untold = all.untold;
          split = all.split;
          responses = all.responses;
          answers = all.answers;
          between = all.alone.between;
          answered = answered;
          apart = runs-apart (hosts old.0) old.0.bound (states old.0) all.told (flat_map response_text all.responses) all.alone.between answered;
          same = all.alone.same;
          written = lines.written;
          whole = all.text_is ∙ lines.whole;
          appends = lines.appends;
          unanswered = all.unanswered;
          few = all.few;
          last = all.alone.last;
          run = all.run;
          survives = all.survives;
        },
        all.whole,
      )

-- all of an input is answered where nothing is left, and no step failed
pub answers_all : (old new : Cell) (pieces : List Piece) (h0 h1 : Option (List ℕ)) (left : List ℕ) (told_by : Head → Type 0) (crash : List ℕ → Type 0) (r : RunsRecorded old new pieces h0 h1 left told_by crash) (input : List ℕ)
    → pieces ≡ pieces_of input → left ≡ [] → r.untold ≡ [] → r.unanswered ≡ [] → (text : List ℕ) × Appends h0 h1 text × AnswersRecorded old input text new
answers_all old new pieces h0 h1 left told_by crash r input all none untold unanswered =
    let whole : flat_map response_text r.responses ≡ r.written = r.whole ∙ ap (λ (t : List ℕ). r.written ++ t) none ∙ append-nil r.written in
    let lines : r.told ≡ pieces_of input = sym (append-nil r.told) ∙ ap (λ (ps : List Piece). r.told ++ ps) (sym untold) ∙ sym r.split ∙ all in
    let answered : AreAnswers (hosts old) old.bound (states old) (pieces_of input) r.written (states new) =
    (subst (λ (ps : List Piece). AreAnswers (hosts old) old.bound (states old) ps r.written (states new)) lines
    (subst (λ (t : List ℕ). AreAnswers (hosts old) old.bound (states old) r.told t (states new)) whole
    (subst (λ (s : ℕ → State). AreAnswers (hosts old) old.bound (states old) r.told (flat_map response_text r.responses) s) (r.last unanswered) r.answered))) in (
      r.written,
      r.appends,
      record {
        responses = r.responses;
        answers = subst (λ (ps : List Piece). AreResponses ps r.responses) lines r.answers;
        whole = sym whole;
        input_is_answered = record {
          answers = answered;
          exact = exact (hosts old) old.bound (states old) (pieces_of input) r.written (states new) answered;
          apart = runs-apart (hosts old) old.bound (states old) (pieces_of input) r.written (states new) answered;
          same = r.same;
        };
        run = subst (λ (steps : List Step). IsRun old.bound (run_by (hosts old) (trails old) steps (trails new))) (ap (λ (steps : List Step). steps_of r.responses ++ steps) unanswered ∙ append-nil (steps_of r.responses)) r.run;
      },
    )

pub ends_all : {R : Type 0} (fails : R → Type 0) (remaining : R → Option (List ℕ)) (reader : R) (input : Option (List ℕ)) (stops : Bool) (seen : List ℕ) (old new : Cell) (pieces : List Piece) (h0 h1 : Option (List ℕ)) (left : List ℕ) (told_by : Head → Type 0)
    (crash : List ℕ → Type 0) (r : RunsRecorded old new pieces h0 h1 left told_by crash) (ended : Result (Unit {0}) StreamError) → Consumes input (remaining reader) seen → StopsBy fails remaining reader stops seen pieces left ended
    → (stops ≡ false → (r.untold ≡ []) × (r.unanswered ≡ [])) → OnOk ended (stops ≡ false → IfSome input (λ bytes. (text : List ℕ) × Appends h0 h1 text × AnswersRecorded old bytes text new))
ends_all fails remaining reader input stops seen old new pieces h0 h1 left told_by crash r (Err error) reads by whole = tt
ends_all fails remaining reader None stops seen old new pieces h0 h1 left told_by crash r (Ok value) reads by whole = λ going. tt
ends_all fails remaining reader (Some bytes) stops seen old new pieces h0 h1 left told_by crash r (Ok value) reads (nothing, inl (over, first)) whole = λ going. absurd (true≢false (sym over ∙ going))
ends_all fails remaining reader (Some bytes) stops seen old new pieces h0 h1 left told_by crash r (Ok value) reads (nothing, inr (at_end, all)) whole =
    λ going. answers_all old new pieces h0 h1 left told_by crash r bytes (all ∙ ap pieces_of (read_all (remaining reader) bytes seen reads at_end)) nothing (whole going).0 (whole going).1

-- ---- records that are as they can be

pub are_one : (r : Record) → r.tenant < 4294967296 → r.session < 256 → length r.line ≤ 4096 → AreRecords (r ∷ [])
are_one r tenant session short = (record { tenant = tenant; session = session; line = short }, tt)
