-- A session's part from round to round.
use Rattle.std.proofs.Common.{◌≡◌, ℕ, zero, suc, ◌+◌, ◌-◌, ◌≤◌, Bool, ◌||◌, List, [], ◌∷◌, ◌++◌, length, Option, Some, None, Result, Ok, Err, refl, sym, ap, ◌∙◌, subst, append_assoc, append-nil, arith, Vec}
use Rattle.std.specs.Global.{Global}
use Rattle.std.specs.List.{AllZip}
use Rattle.std.proofs.Math.Bool.{or-false}
use Rattle.std.proofs.lemmas.List.{length-map, map-append, nil_from_length}
use Rattle.std.proofs.lemmas.List.Folds.{list_any-append}
use Rattle.std.proofs.lemmas.Grind.{flat_map-append}
use Rattle.sb_tenant.specs.declared.reply.Answer.{Answer}
use Rattle.sb_desk.specs.declared.desk.CallError.{CallError}
use Rattle.sb_desk.specs.Receipts.{newcomer}
use Rattle.sb_desk.specs.Calls.{Calls, Session, shown}
use Rattle.sb_replay.specs.Pool.{CallsOnce, IsDone}
use Rattle.sb_replay.specs.declared.pool.Job.{Job}
use Rattle.sb_replay.specs.declared.pool.Done.{Done}
use Rattle.sb_replay.specs.Lists.{AllCut}
use Rattle.sb_replay.specs.Sessions.{Exchange, Plays, any_lacks, commands_in, lacks_number, session_text, told_text}
use Rattle.sb_replay.specs.Sheets.{Sheet, Tells, fresh, lines_of, telling, with_next}
use Rattle.sb_replay.specs.Parts.{Deals, Gathers, Moves, MovesBy, MovesIn, Opens, OpensBy, Rests, calls, calls_of, session_at, tenant_at}
use Rattle.sb_replay.proofs.Lists.{zip_same, zip_then}
use Rattle.sb_replay.specs.declared.part.SessionPart.{SessionPart}
use Rattle.sb_replay.specs.declared.round.Waiting.{Waiting}
use Rattle.sb_replay.specs.declared.round.Waiting.TheVariants.{Called, Resting}

-- ---- a round

-- a job of a session was done, of which all is seen
abbrev pub WasDone : Job Session → Done Session → Type 0
WasDone = IsDone (λ session. session)

-- what a call's result says, once its session is known
told_by : (old : Sheet) (session after : Session) (line : List ℕ) (result : Result (Unit {0}) CallError) (new : Sheet)
    → CallsOnce session line result after → Tells old result after.last new
    → (given : Result Answer CallError) × Calls session line given after × (new ≡ telling old given)
told_by old session after line (Ok u) new (answer, calls) tells =
    (Ok answer, calls, subst (λ (last : Option Answer). Tells old (Ok u) last new) (ap (λ (s : Session). s.last) calls.2) tells)
told_by old session after line (Err e) new calls tells = (Err e, calls, tells)

pub done_long : (jobs : List (Job Session)) (done : List (Done Session)) → AllZip WasDone jobs done → length jobs ≡ length done
done_long [] [] all = refl
done_long [] (d ∷ ds) all = absurd all
done_long (j ∷ js) [] all = absurd all
done_long (j ∷ js) (d ∷ ds) all = ap suc (done_long js ds all.1)

module _ {N : Type 0} where
  stays : (session : Option Session) (left : List (List ℕ)) (old new : SessionPart N) → Rests session left → new ≡ old → MovesBy session left old new
  stays None left old new rests same = same
  stays (Some s) [] old new rests same = same
  stays (Some s) (c ∷ cs) old new rests same = absurd rests

  one_moves : (p q : SessionPart N) (w : Waiting N) (own rest : List (Job Session)) (own' rest' : List (Done Session))
      → Deals p w own → Gathers w q own' → AllZip WasDone (own ++ rest) (own' ++ rest') → Moves p q × AllZip WasDone rest rest'
  one_moves p q (Resting same) own rest own' rest' (is, rests, none) (is', none') all = (
    stays p.session p.sheet.left p q rests (is' ∙ is),
    subst (λ (l : List (Job Session)). AllZip WasDone (l ++ rest) rest') none (subst (λ (l : List (Done Session)). AllZip WasDone (own ++ rest) (l ++ rest')) none' all),
  )
  one_moves p q (Called sheet) own rest own' rest' (job, one, is) (done, one', (session, tells)) all =
      let both : AllZip WasDone (job ∷ rest) (done ∷ rest') =
      subst (λ (l : List (Job Session)). AllZip WasDone (l ++ rest) (done ∷ rest')) one (subst (λ (l : List (Done Session)). AllZip WasDone (own ++ rest) (l ++ rest')) one' all) in
      let told = told_by sheet job.session done.session job.line.items done.result q.sheet both.0.1 tells in
      let moved : MovesBy (Some job.session) (job.line.items ∷ sheet.left) (record { session = Some job.session; sheet = with_next job.line.items sheet }) q =
      (told.0, done.session, told.1, λ i. record { session = session i; sheet = told.2 i }) in (
        subst (λ (old : SessionPart N). Moves old q) (sym is) moved,
        both.1,
      )

  -- each part has moved
  pub all_move : (ps : List (SessionPart N)) (ws : List (Waiting N)) (qs : List (SessionPart N)) (jobs : List (Job Session)) (done : List (Done Session))
      → AllCut Deals ps ws jobs → AllCut Gathers ws qs done → AllZip WasDone jobs done → AllZip Moves ps qs
  all_move [] [] [] jobs done deals gathers all = tt
  all_move [] [] (q ∷ qs) jobs done deals gathers all = absurd gathers
  all_move [] (w ∷ ws) qs jobs done deals gathers all = absurd deals
  all_move (p ∷ ps) [] qs jobs done deals gathers all = absurd deals
  all_move (p ∷ ps) (w ∷ ws) [] jobs done deals gathers all = absurd gathers
  all_move (p ∷ ps) (w ∷ ws) (q ∷ qs) jobs done (own, rest, cut, deal, deals) (own', rest', cut', gather, gathers) all =
      let cuts : AllZip WasDone (own ++ rest) (own' ++ rest') = subst (λ (l : List (Job Session)). AllZip WasDone l (own' ++ rest')) cut (subst (AllZip WasDone jobs) cut' all) in
      let both = one_moves p q w own rest own' rest' deal gather cuts in
      (both.0, all_move ps ws qs rest rest' deals gathers both.1)

  -- a job for each part that waits for an answer
  pub calls_are : (ps : List (SessionPart N)) (ws : List (Waiting N)) (jobs : List (Job Session)) → AllCut Deals ps ws jobs → calls ws ≡ length jobs
  calls_are [] [] jobs none = ap length (sym none)
  calls_are [] (w ∷ ws) jobs deals = absurd deals
  calls_are (p ∷ ps) [] jobs deals = absurd deals
  calls_are (p ∷ ps) (Called sheet ∷ ws) jobs (own, rest, cut, (job, one, is), deals) =
      let others = calls_are ps ws rest deals in
      let all : length jobs ≡ length (job ∷ rest) = ap length cut ∙ ap (λ (l : List (Job Session)). length (l ++ rest)) one in
      omega arith
  calls_are (p ∷ ps) (Resting same ∷ ws) jobs (own, rest, cut, (is, rests, none), deals) =
      let others = calls_are ps ws rest deals in
      let all : length jobs ≡ length rest = ap length cut ∙ ap (λ (l : List (Job Session)). length (l ++ rest)) none in
      omega arith

  -- an answer for each part that waits for one
  pub used_by : (w : Waiting N) (p : SessionPart N) (own : List (Done Session)) → Gathers w p own → length own ≡ calls_of w
  used_by (Called sheet) p own (done, one, told) = ap length one
  used_by (Resting same) p own (is, none) = ap length none

-- ---- all rounds

-- one call more
plays_more : (old mid new : Session) (es : List Exchange) (e : Exchange) → Plays old es mid → Calls mid e.command e.given new → Plays old (es ++ e ∷ []) new
plays_more old mid new [] e same calls = (new, subst (λ (s : Session). Calls s e.command e.given new) same calls, refl)
plays_more old mid new (x ∷ es) e (next, first, others) calls = (next, first, plays_more next mid new es e others calls)

-- how far a session's calls have come
pub record Played (t s : ℕ) (commands : List (List ℕ)) (sheet : Sheet) (last : Session) : Type 0 where
  pub exchanges : List Exchange
  pub opening : ℕ
  pub commands_are : commands ≡ commands_in exchanges ++ sheet.left
  pub plays : Plays (shown (newcomer t s opening)) exchanges last
  pub tenant_is : sheet.tenant ≡ t
  pub number_is : sheet.number ≡ s
  pub text_is : sheet.text ≡ session_text t s exchanges
  pub full_is : sheet.is_full ≡ any_lacks exchanges

abbrev pub Reaches : ℕ → ℕ → List (List ℕ) → Option Session → Sheet → Type 0
Reaches t s commands None sheet = (commands ≡ []) × (sheet ≡ fresh t s [])
Reaches t s commands (Some last) sheet = (commands ≡ [] → ⊥) × Played t s commands sheet last

starts : (t s : ℕ) (commands : List (List ℕ)) (session : Option Session) (sheet : Sheet)
    → sheet ≡ fresh t s commands → OpensBy commands t s session → Reaches t s commands session sheet
starts t s [] session sheet is none = subst (λ (x : Option Session). Reaches t s [] x sheet) (sym none) (refl, is)
starts t s (c ∷ cs) session sheet is (n, some) =
    subst (λ (x : Option Session). Reaches t s (c ∷ cs) x sheet) (sym some) (subst (λ (x : Sheet). Reaches t s (c ∷ cs) (Some (shown (newcomer t s n))) x) (sym is) (
      λ e. cc,
      record { exchanges = []; opening = n; commands_are = refl; plays = refl; tenant_is = refl; number_is = refl; text_is = refl; full_is = refl },
    ))

-- with one call more
plays_on : (t s : ℕ) (commands : List (List ℕ)) (sheet : Sheet) (last after : Session) (line : List ℕ) (lines : List (List ℕ)) (given : Result Answer CallError)
    → Played t s commands sheet last → sheet.left ≡ line ∷ lines → Calls last line given after
    → Played t s commands (telling (record sheet { left = lines }) given) after
plays_on t s commands sheet last after line lines given p left calls =
    let e : Exchange = record { command = line; given = given } in
    record {
      exchanges = p.exchanges ++ e ∷ [];
      opening = p.opening;
      commands_are =
          p.commands_are ∙ ap (λ (l : List (List ℕ)). commands_in p.exchanges ++ l) left ∙ sym (append_assoc (commands_in p.exchanges) (line ∷ []) lines)
          ∙ ap (λ (l : List (List ℕ)). l ++ lines) (sym (map-append (λ (x : Exchange). x.command) p.exchanges (e ∷ [])));
      plays = plays_more (shown (newcomer t s p.opening)) last after p.exchanges e p.plays calls;
      tenant_is = p.tenant_is;
      number_is = p.number_is;
      text_is =
          ap (λ (l : List ℕ). l ++ told_text sheet.tenant sheet.number given) p.text_is
          ∙ ap (λ (u : ℕ). session_text t s p.exchanges ++ told_text u sheet.number given) p.tenant_is
          ∙ ap (λ (u : ℕ). session_text t s p.exchanges ++ told_text t u given) p.number_is
          ∙ ap (λ (l : List ℕ). session_text t s p.exchanges ++ l) (sym (append-nil (told_text t s given)))
          ∙ sym (flat_map-append (λ (x : Exchange). told_text t s x.given) p.exchanges (e ∷ []));
      full_is =
          ap (λ (b : Bool). b || lacks_number given) p.full_is
          ∙ ap (λ (b : Bool). any_lacks p.exchanges || b) (sym (or-false (lacks_number given)))
          ∙ sym (list_any-append (λ (x : Exchange). lacks_number x.given) p.exchanges (e ∷ []));
    }

module _ {N : Type 0} where
  -- a round on, with one command fewer left
  goes_on : (t s : ℕ) (commands : List (List ℕ)) (session : Option Session) (left : List (List ℕ)) (old new : SessionPart N)
      → old.session ≡ session → old.sheet.left ≡ left → Reaches t s commands session old.sheet → MovesBy session left old new
      → Reaches t s commands new.session new.sheet × (length new.sheet.left ≡ length left - 1)
  goes_on t s commands None left old new at leaves reach same = (
    subst (λ (p : SessionPart N). Reaches t s commands p.session p.sheet) (sym same) (subst (λ (x : Option Session). Reaches t s commands x old.sheet) (sym at) reach),
    let none : old.sheet.left ≡ [] = ap (λ (x : Sheet). x.left) reach.1 in
        let now : length new.sheet.left ≡ 0 = ap (λ (p : SessionPart N). length p.sheet.left) same ∙ ap length none in
        let was : length left ≡ 0 = ap length (sym leaves ∙ none) in
        omega arith,
  )
  goes_on t s commands (Some last) [] old new at leaves reach same = (
    subst (λ (p : SessionPart N). Reaches t s commands p.session p.sheet) (sym same) (subst (λ (x : Option Session). Reaches t s commands x old.sheet) (sym at) reach),
    ap (λ (p : SessionPart N). length p.sheet.left) same ∙ ap length leaves,
  )
  goes_on t s commands (Some last) (line ∷ lines) old new at leaves reach (given, after, calls, is) = (
    subst (λ (p : SessionPart N). Reaches t s commands p.session p.sheet) (sym is) (reach.0, plays_on t s commands old.sheet last after line lines given reach.1 leaves calls),
    let now : length new.sheet.left ≡ length lines = ap (λ (p : SessionPart N). length p.sheet.left) is in
        omega arith,
  )

  goes_on_in : (t s : ℕ) (commands : List (List ℕ)) (n : ℕ) (old new : SessionPart N) → Reaches t s commands old.session old.sheet → MovesIn n old new
      → Reaches t s commands new.session new.sheet × (length new.sheet.left ≡ length old.sheet.left - n)
  goes_on_in t s commands zero old new reach same = (
    subst (λ (p : SessionPart N). Reaches t s commands p.session p.sheet) (sym same) reach,
    let is = ap (λ (p : SessionPart N). length p.sheet.left) same in
        omega arith,
  )
  goes_on_in t s commands (suc n) old new reach (mid, before, moves) =
      let so_far = goes_on_in t s commands n old mid reach before in
      let on = goes_on t s commands mid.session mid.sheet.left mid new refl refl so_far.0 moves in
      (on.0, omega arith)

  pub no_round : (ps : List (SessionPart N)) → AllZip (MovesIn 0) ps ps
  no_round ps = zip_same (MovesIn 0) (λ p. refl) ps

  pub round_more : (n : ℕ) (ps qs rs : List (SessionPart N)) → AllZip (MovesIn n) ps qs → AllZip Moves qs rs → AllZip (MovesIn (n + 1)) ps rs
  round_more n ps qs rs before moves =
      let more : suc n ≡ n + 1 = omega arith in
      subst (λ (k : ℕ). AllZip (MovesIn k) ps rs) more (zip_then (MovesIn n) Moves (MovesIn (suc n)) (λ p q r first last. (q, first, last)) ps qs rs before moves)

  -- the part of the rank k, whose commands have all been called
  abbrev pub Finished : ℕ → Vec (Vec ℕ Global) Global → SessionPart N → Type 0
  Finished k row part = Reaches (tenant_at k) (session_at k) (lines_of row.items) part.session part.sheet × (part.sheet.left ≡ [])

  -- as many rounds as it has commands
  pub plays_all : (rounds k : ℕ) (row : Vec (Vec ℕ Global) Global) (old new : SessionPart N)
      → length row.items ≤ rounds → Opens k row old → MovesIn rounds old new → Finished k row new
  plays_all rounds k row old new few (sheet, session) moves =
      let commands = lines_of row.items in
      let start = starts (tenant_at k) (session_at k) commands old.session old.sheet sheet session in
      let on = goes_on_in (tenant_at k) (session_at k) commands rounds old new start moves in
      let first : length old.sheet.left ≡ length row.items = ap (λ (x : Sheet). length x.left) sheet ∙ length-map row.items (λ (c : Vec ℕ Global). c.items) in
      (on.0, nil_from_length new.sheet.left (omega arith))
