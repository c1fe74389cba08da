-- The messages of the extended query, part by part.
use Rattle.std.proofs.Common.{◌≡◌, ℕ, Bool, true, List, [], ◌∷◌, ◌++◌, Option, Some, None, is_some, Result, Ok, Err, refl, ap, sym, ◌∙◌, subst, append-nil, append_assoc, inl}
use Rattle.std.specs.Prelude.{IfErr, MatchResult}
use Rattle.sb_postgres.specs.Answers.{Answered, BindComplete, NoData, ParameterDescription, ParseComplete}
use Rattle.sb_frontend.specs.declared.denial.Denial.{Denial}
use Rattle.sb_frontend.specs.declared.denial.Denial.TheVariants as d
use Rattle.sb_frontend.specs.declared.phase.Phase.TheVariants as phase
use Rattle.sb_frontend.specs.Columns.{without_columns}
use Rattle.sb_frontend.specs.Denials.{Comes, state_of, text_of}
use Rattle.sb_frontend.specs.Extended.{BindsMade, CommitsIn, DescribesPortal, DescribesStatement, EndsWith, Executes, Fails, GivesUpIn, Parses, PlaysPortal, Runs, Synchronizes, TellsColumns, TellsPrepared, left_of, working}
use Rattle.sb_frontend.specs.Outcomes.{outcome}
use Rattle.sb_frontend.specs.Outputs.{Extends, FailsBy, Outgoing, Says, SaysSome, completed, error_of, written}
use Rattle.sb_frontend.specs.Outputs as output
use Rattle.sb_frontend.specs.Plays.{PlaysOne, Spot}
use Rattle.sb_frontend.specs.Portals.{IsPrepared, Portal, Prepared, Workbench, bound, prepared, started}
use Rattle.sb_frontend.specs.Standings.{Standing, ready}
use Rattle.sb_frontend.specs.Talking.{Talking, Tells}
use Rattle.sb_frontend.proofs.Conversing.{talking}
use Rattle.sb_frontend.proofs.Playing.{Some_said, say-anyway}
use Rattle.sb_frontend.proofs.Saying.{fails-plain, says-some, says-then, written-append}

-- ---- an error

denial-told : (why : Denial) → Some_said (FailsBy (state_of why) (text_of why))
denial-told why = (error_of (state_of why) (text_of why) ∷ [], fails-plain (state_of why) (text_of why))

pub denied : (why : Denial) (old new : Talking) (mid : Outgoing) (at : Standing) → SaysSome (FailsBy (state_of why) (text_of why)) old.out mid
    → at ≡ record old.at { phase = phase.Skipping } → GivesUpIn at.spot new.at.spot → new ≡ record { at = record at { spot = new.at.spot }; out = mid } → Tells (Fails why) old new
denied why old new mid at says skips given same =
    let told = say-anyway (FailsBy (state_of why) (text_of why)) old.out mid (denial-told why) says in
    let spot : at.spot ≡ old.at.spot = ap (λ (s : Standing). s.spot) skips in
    let stands : new.at ≡ record { phase = phase.Skipping; spot = new.at.spot; work = old.at.work } =
    ap (λ (t : Talking). t.at) same ∙ ap (λ (s : Standing). record s { spot = new.at.spot }) skips in
    let out : new.out ≡ mid = ap (λ (t : Talking). t.out) same in
    (told.0, (told.1, new.at.spot, subst (λ (s : Option Spot). GivesUpIn s new.at.spot) spot given, stands), subst (λ (o : Outgoing). Extends told.0 old.out o) (sym out) told.2.1)

-- ---- how a message ends

abbrev pub Ended : Answered → Result (Unit {0}) Denial → Talking → Talking → Type 0
Ended m done old new = MatchResult done (λ _. (new.at ≡ old.at) × Says (m ∷ []) old.out new.out) (λ why. Tells (Fails why) old new)

abbrev pub Left : Answered → Result Workbench Denial → Talking → Talking → Type 0
Left m wanted old new = (left : Result Workbench Denial) × Comes wanted left × Tells (EndsWith m left) old new

pub ends : (m : Answered) (wanted : Result Workbench Denial) (old new : Talking) (work : Workbench) (done : Result (Unit {0}) Denial) → Comes wanted (outcome work done) → IfErr done (λ _. work ≡ old.at.work)
    → Ended m done (talking (working work old.at) old.out) new → Left m wanted old new
ends m wanted old new work (Ok u) comes kept ended = (Ok work, comes, (m ∷ [], (refl, ended.0), ended.1.1))
ends m wanted old new work (Err why) comes kept ended =
    (Err why, comes, subst (λ (w : Workbench). Tells (Fails why) (talking (working w old.at) old.out) new) kept ended)

pub parsed : (name text types : List ℕ) (made : Result Prepared Denial) (old new : Talking) → IsPrepared text types made → Left ParseComplete (prepared name made old.at.work) old new → Tells (Parses name text types) old new
parsed name text types made old new is l = (l.2.0, (made, l.0, is, l.1, l.2.1), l.2.2)

pub bound-made : (name : List ℕ) (made : Result Portal Denial) (old new : Talking) → Left BindComplete (bound name made old.at.work) old new → Tells (BindsMade name made) old new
bound-made name made old new l = (l.2.0, (l.0, l.1, l.2.1), l.2.2)

-- ---- a portal is played

pub not-run : (bytes : List ℕ) (old : Talking) → old.at.spot ≡ None → Tells (PlaysPortal bytes old.at.spot) old old
unfolding written
not-run bytes old none =
    let here : PlaysPortal bytes old.at.spot old.at [] old.at = subst (λ (s : Option Spot). PlaysPortal bytes s old.at [] old.at) (sym none) (refl, refl) in
    ([], here, λ w. (w, sym (append-nil old.out.bytes)))

abbrev pub Played : List ℕ → Spot → Spot → Bool → Outgoing → Outgoing → Type 0
Played bytes before mid well o m = (ms : List Answered) × (tag : Option (List ℕ)) × PlaysOne without_columns bytes before ms tag mid × (well ≡ is_some tag) × output.Tells ms tag o m

pub ran-well : (bytes : List ℕ) (old : Talking) (before mid : Spot) (o m new : Outgoing) (well : Bool) → old.at.spot ≡ Some before → o ≡ record old.out { held = None } → Played bytes before mid well o m → well ≡ true
    → output.Tells (completed m.held) None m new → Tells (PlaysPortal bytes old.at.spot) old (talking (record old.at { spot = Some mid }) new)
ran-well bytes old before mid o m new well was forgot p e told = (p.0 ++ completed p.1, here, extends)
  where
    behind : Standing
    behind = record old.at { spot = Some mid }

    tagged : is_some p.1 ≡ true
    tagged = sym p.3 ∙ e

    now : PlaysPortal bytes (Some before) old.at (p.0 ++ completed p.1) behind
    now = (p.0, p.1, mid, p.2, refl, rw tagged refl)

    here : PlaysPortal bytes old.at.spot old.at (p.0 ++ completed p.1) behind
    here = subst (λ (s : Option Spot). PlaysPortal bytes s old.at (p.0 ++ completed p.1) behind) (sym was) now

    extends : Extends (p.0 ++ completed p.1) old.out new
    extends w =
        let h = told w in
        let g = p.4 h.0 in (
          sym (ap (λ (x : Outgoing). x.failed) forgot) ∙ g.0,
          h.1 ∙ ap (λ (b : List ℕ). b ++ written (completed m.held)) (g.1 ∙ ap (λ (x : Outgoing). x.bytes ++ written p.0) forgot)
              ∙ append_assoc old.out.bytes (written p.0) (written (completed m.held))
              ∙ ap (λ (b : List ℕ). old.out.bytes ++ b) (sym (written-append p.0 (completed m.held)) ∙ ap (λ (t : Option (List ℕ)). written (p.0 ++ completed t)) g.2),
        )

abbrev pub Found : Type 0
Found = Result (Option (List ℕ) × Workbench) Denial

-- by what was found under its name
pub executed : (name : List ℕ) (rows : ℕ) (old new : Talking) (found is : Found) → Comes (started name rows old.at.work) found → found ≡ is → Tells (Runs is) old new → Tells (Executes name rows) old new
executed name rows old new found is comes e t = (t.0, (is, subst (λ (f : Found). Comes (started name rows old.at.work) f) e comes, t.1), t.2)

pub runs-line : (bytes : List ℕ) (work : Workbench) (old new : Talking) → Tells (PlaysPortal bytes old.at.spot) (talking (working work old.at) old.out) new → Tells (Runs (Ok (Some bytes, work))) old new
runs-line bytes work old new t = (t.0, t.1, t.2)

pub runs-none : (work : Workbench) (old : Talking) (out : Outgoing) (m : Answered) → Says (m ∷ []) old.out out → Tells (λ at ms new. (ms ≡ m ∷ []) × (new ≡ working work at)) old (talking (working work old.at) out)
runs-none work old out m says = (m ∷ [], (refl, refl), says.1)

pub runs-denied : (why : Denial) (work : Workbench) (old new : Talking) → work ≡ old.at.work → Tells (Fails why) (talking (working work old.at) old.out) new → Tells (Runs (Err why)) old new
runs-denied why work old new kept t = subst (λ (w : Workbench). Tells (Fails why) (talking (working w old.at) old.out) new) kept t

-- ---- a transaction is committed

pub nothing-committed : (spot : Option Spot) (o : Outgoing) → spot ≡ None → (ms : List Answered) × CommitsIn spot ms spot × Says ms o o
unfolding written
nothing-committed spot o none = ([], subst (λ (s : Option Spot). CommitsIn s [] s) (sym none) (refl, refl), (refl, λ w. (w, sym (append-nil o.bytes))))

abbrev pub leaving : Talking → Talking
leaving t = record t { at = record t.at { work = left_of t.at.spot t.at.work } }

pub synchronized : (old s a b new : Talking) → s ≡ talking (record old.at { phase = phase.Ready }) old.out → ((ms : List Answered) × CommitsIn s.at.spot ms a.at.spot × Says ms s.out a.out)
    → a.at ≡ record s.at { spot = a.at.spot } → b ≡ leaving a → Says (ready b.at.spot ∷ []) b.out new.out → new.at ≡ b.at → Tells Synchronizes old new
synchronized old s a b new begun told same left says at = (told.0 ++ ready a.at.spot ∷ [], (told.0, a.at.spot, commits, refl, stands), says-all.1)
  where
    commits : CommitsIn old.at.spot told.0 a.at.spot
    commits = subst (λ (t : Talking). CommitsIn t.at.spot told.0 a.at.spot) begun told.1

    first : Says told.0 old.out a.out
    first = subst (λ (t : Talking). Says told.0 t.out a.out) begun told.2

    last : Says (ready a.at.spot ∷ []) a.out new.out
    last = subst (λ (t : Talking). Says (ready t.at.spot ∷ []) t.out new.out) left says

    says-all : Says (told.0 ++ ready a.at.spot ∷ []) old.out new.out
    says-all = says-then told.0 (ready a.at.spot ∷ []) old.out a.out new.out first last

    stood : a.at ≡ record { phase = phase.Ready; spot = a.at.spot; work = old.at.work }
    stood = same ∙ ap (λ (t : Talking). record t.at { spot = a.at.spot }) begun

    stands : new.at ≡ record { phase = phase.Ready; spot = a.at.spot; work = left_of a.at.spot old.at.work }
    stands = at ∙ ap (λ (t : Talking). t.at) left ∙ ap (λ (t : Standing). record t { work = left_of t.spot t.work }) stood

-- ---- Close, Describe

columns-told : Some_said TellsColumns
columns-told = (NoData ∷ [], inl refl)

prepared-told : (p : Prepared) → Some_said (TellsPrepared p)
prepared-told p = (ParameterDescription p.types ∷ NoData ∷ [], (NoData ∷ [], inl refl, refl))

pub describes-prepared : (found : Option Prepared) (p : Prepared) (old : Talking) (out : Outgoing) → found ≡ Some p → SaysSome (TellsPrepared p) old.out out → Tells (DescribesStatement found) old (talking old.at out)
describes-prepared found p old out is says =
    let told = say-anyway (TellsPrepared p) old.out out (prepared-told p) says in
    let here : DescribesStatement (Some p) old.at told.0 old.at = (told.1, refl) in
    (told.0, subst (λ (f : Option Prepared). DescribesStatement f old.at told.0 old.at) (sym is) here, told.2.1)

pub describes-no-statement : (found : Option Prepared) (old new : Talking) → found ≡ None → Tells (Fails d.NoStatement) old new → Tells (DescribesStatement found) old new
describes-no-statement found old new is t = subst (λ (f : Option Prepared). Tells (DescribesStatement f) old new) (sym is) t

pub describes-bound : (found : Option Portal) (p : Portal) (old : Talking) (out : Outgoing) → found ≡ Some p → SaysSome TellsColumns old.out out → Tells (DescribesPortal found) old (talking old.at out)
describes-bound found p old out is says =
    let told = say-anyway TellsColumns old.out out columns-told says in
    let here : DescribesPortal (Some p) old.at told.0 old.at = (told.1, refl) in
    (told.0, subst (λ (f : Option Portal). DescribesPortal f old.at told.0 old.at) (sym is) here, told.2.1)

pub describes-no-portal : (found : Option Portal) (old new : Talking) → found ≡ None → Tells (Fails d.NoPortal) old new → Tells (DescribesPortal found) old new
describes-no-portal found old new is t = subst (λ (f : Option Portal). Tells (DescribesPortal f) old new) (sym is) t

-- what is told of a prepared statement: its types, and then its columns
pub prepared-then : (p : Prepared) (a b c : Outgoing) → Says (ParameterDescription p.types ∷ []) a b → SaysSome TellsColumns b c → SaysSome (TellsPrepared p) a c
prepared-then p a b c says some =
    let told = say-anyway TellsColumns b c columns-told some in
    says-some (TellsPrepared p) (ParameterDescription p.types ∷ told.0) a c (told.0, told.1, refl) (says-then (ParameterDescription p.types ∷ []) told.0 a b c says told.2)
