-- A conversation goes on, part by part.
use Rattle.std.proofs.Common.{◌≡◌, ◌<◌, ℕ, Bool, true, false, List, [], ◌∷◌, ◌++◌, length, map, Option, Some, None, inl, inr, refl, sym, ap, ◌∙◌, subst, append_assoc, append-nil, arith, Bor}
use Rattle.sb_postgres.specs.declared.told.settings.TheConstants.{REPORTED}
use Rattle.sb_postgres.specs.declared.told.sqlstate.SqlState.{SqlState}
use Rattle.sb_postgres.specs.Answers.{Answered, AuthenticationOk, BackendKeyData, ParameterStatus}
use Rattle.sb_postgres.specs.Messages.{Said}
use Rattle.sb_postgres.specs.Startup.{Pair, Started, Startup}
use Rattle.sb_frontend.specs.declared.start.OpenError.{OpenError}
use Rattle.sb_frontend.specs.Conversations.{AnswersMessage, AnswersPacket, AsksKey, Enters, Meets, Opens, OpensNamed, Part, PlaysHere, PlaysIn, RefusesKey, Standing, Starts, TurnsAway, fresh, negotiated, ready, seated, welcome}
use Rattle.sb_frontend.specs.Demands.{Demanded, demand_of}
use Rattle.sb_frontend.specs.Outputs.{Adds, Outgoing, Says, written}
use Rattle.sb_frontend.specs.Plays.{Spot}
use Rattle.sb_frontend.specs.Replies.{Exchange}
use Rattle.sb_frontend.specs.Starts.{AreInUse, RefusesAll, Source, options_of, session_count, state_of, tenant_of, text_of}
use Rattle.sb_frontend.specs.Talking.{SendsSome, Talking, Tells}
use Rattle.sb_frontend.proofs.Playing.{PlaysText}
use Rattle.sb_frontend.proofs.Saying.{says-nothing, says-then, written-append}

-- with these messages to be sent
abbrev pub talking : Standing → Outgoing → Talking
talking at out = record { at = at; out = out }

pub tells-said : (Is : Part) (ms : List Answered) (old new : Talking) → Is old.at ms new.at → Says ms old.out new.out → Tells Is old new
tells-said Is ms old new is says = (ms, is, says.1)

pub tells-nothing : (Is : Part) (old : Talking) (at : Standing) → Is old.at [] at → Tells Is old (talking at old.out)
unfolding written
tells-nothing Is old at is = ([], is, λ w. (w, sym (append-nil old.out.bytes)))

-- ---- a session is opened

abbrev pub told_of : List Answered
told_of = map (λ s. ParameterStatus s.0.now s.1.now) REPORTED

pub welcomed : (number : ℕ) (spot : Option Spot) (a b c d e : Outgoing) → Says (AuthenticationOk ∷ []) a b → Says told_of b c → Says (BackendKeyData number 0 ∷ []) c d → Says (ready spot ∷ []) d e → Says (welcome number spot) a e
welcomed number spot a b c d e first settings key last =
    says-then (AuthenticationOk ∷ []) (told_of ++ BackendKeyData number 0 ∷ ready spot ∷ []) a b e first
    (says-then told_of (BackendKeyData number 0 ∷ ready spot ∷ []) b c e settings (says-then (BackendKeyData number 0 ∷ []) (ready spot ∷ []) c d e key last))

pub fresh-as : (spot : Spot) (tenant number : ℕ) (exchanges : List Exchange) (has : Bool) → spot ≡ record { tenant = tenant; number = number; exchanges = exchanges; has = has; own = false } → (exchanges ≡ []) × (has ≡ false) → spot ≡ fresh tenant number
fresh-as spot tenant number exchanges has is new =
    is ∙ ap (λ (es : List Exchange). record { tenant = tenant; number = number; exchanges = es; has = has; own = false }) new.0
    ∙ ap (λ (h : Bool). record { tenant = tenant; number = number; exchanges = []; has = h; own = false }) new.1

pub opened : (source : Source) (tenant t n : ℕ) (old new : Talking) → t ≡ tenant → n < session_count → AreInUse source tenant n → Says (welcome n (Some (fresh t n))) old.out new.out → new.at ≡ seated t n
    → Tells (Opens source tenant) old new
opened source tenant t n old new is low least says at =
    let s : Says (welcome n (Some (fresh tenant n))) old.out new.out = subst (λ (m : ℕ). Says (welcome n (Some (fresh m n))) old.out new.out) is says in
    (welcome n (Some (fresh tenant n)), inl (n, low, least, at ∙ ap (λ (m : ℕ). seated m n) is, refl), s.1)

pub not-opened : (source : Source) (tenant : ℕ) (error : OpenError) (why : SqlState) (message : List ℕ) (old new : Talking) → why ≡ state_of error → message ≡ text_of error → RefusesAll source tenant error
    → Tells (TurnsAway why message) old new → Tells (Opens source tenant) old new
not-opened source tenant error why message old new w m refuses t =
    let one : Tells (TurnsAway (state_of error) message) old new = subst (λ (s : SqlState). Tells (TurnsAway s message) old new) w t in
    let two : Tells (TurnsAway (state_of error) (text_of error)) old new = subst (λ (b : List ℕ). Tells (TurnsAway (state_of error) b) old new) m one in
    (two.0, inr (error, refuses, two.1), two.2)

pub as-named : (source : Source) (named is : Option ℕ) (old new : Talking) → named ≡ is → Tells (OpensNamed source is) old new → Tells (OpensNamed source named) old new
as-named source named is old new e t = subst (λ (n : Option ℕ). Tells (OpensNamed source n) old new) (sym e) t

pub starts-asking : (source : Source) (tenant : Option ℕ) (b : Bool) (old new : Talking) → b ≡ source.keyed → b ≡ true → Tells (AsksKey tenant) old new → Tells (Starts source tenant) old new
starts-asking source tenant b old new is e t = let keyed : source.keyed ≡ true = sym is ∙ e in (t.0, rw keyed t.1, t.2)

pub starts-opening : (source : Source) (tenant : Option ℕ) (b : Bool) (old new : Talking) → b ≡ source.keyed → b ≡ false → Tells (OpensNamed source tenant) old new → Tells (Starts source tenant) old new
starts-opening source tenant b old new is e t = let none : source.keyed ≡ false = sym is ∙ e in (t.0, rw none t.1, t.2)

pub as-entered : (source : Source) (named is : Option ℕ) (key : List ℕ) (old new : Talking) → named ≡ is → Tells (Enters source is key) old new → Tells (Enters source named key) old new
as-entered source named is key old new e t = subst (λ (n : Option ℕ). Tells (Enters source n key) old new) (sym e) t

pub enters-in : (source : Source) (tenant : ℕ) (key : List ℕ) (old new : Talking) → source.admits tenant key → Tells (Opens source tenant) old new → Tells (Enters source (Some tenant) key) old new
enters-in source tenant key old new admitted t = (t.0, inl (admitted, t.1), t.2)

pub enters-not : (source : Source) (tenant : ℕ) (key : List ℕ) (old new : Talking) → Tells RefusesKey old new → Tells (Enters source (Some tenant) key) old new
enters-not source tenant key old new t = (t.0, inr t.1, t.2)

-- ---- packets

pub negotiated-none : (minor : ℕ) (options : List (Bor (List ℕ))) (o : Outgoing) → minor ≡ 0 → length options ≡ 0 → Says (negotiated minor (map (λ (b : Bor (List ℕ)). b.now) options)) o o
negotiated-none minor [] o is none = subst (λ (m : ℕ). Says (negotiated m []) o o) (sym is) (says-nothing o)
negotiated-none minor (b ∷ bs) o is none = absurd (omega (arith, none))

pub as-packet : (source : Source) (p is : Started) (old new : Talking) → p ≡ is → SendsSome (AnswersPacket source is) old new → SendsSome (AnswersPacket source p) old new
as-packet source p is old new e t = subst (λ (q : Started). SendsSome (AnswersPacket source q) old new) (sym e) t

pub sends-byte : (Is : Standing → List ℕ → Standing → Type 0) (b : ℕ) (old : Talking) (out : Outgoing) → Is old.at (b ∷ []) old.at → Adds (b ∷ []) old.out out → SendsSome Is old (talking old.at out)
sends-byte Is b old out is adds = (b ∷ [], is, adds.1)

pub sends-nothing : (Is : Standing → List ℕ → Standing → Type 0) (old : Talking) (at : Standing) → Is old.at [] at → SendsSome Is old (talking at old.out)
sends-nothing Is old at is = ([], is, λ w. (w, sym (append-nil old.out.bytes)))

starts-from : (source : Source) (minor : ℕ) (ps : List Pair) (tenant : Option ℕ) (old new : Talking) (mid : Outgoing) → tenant ≡ tenant_of ps → Says (negotiated minor (options_of ps)) old.out mid
    → Tells (Starts source tenant) (talking old.at mid) new → SendsSome (AnswersPacket source (Startup minor ps)) old new
starts-from source minor ps tenant old new mid is says t =
    let tells : Tells (Starts source (tenant_of ps)) (talking old.at mid) new = subst (λ (n : Option ℕ). Tells (Starts source n) (talking old.at mid) new) is t in
    let first = negotiated minor (options_of ps) in (
      written (first ++ tells.0),
      (tells.0, tells.1, refl),
      λ w.
          let h = tells.2 w in
          let g = says.1 h.0 in (
            g.0,
            h.1 ∙ ap (λ (b : List ℕ). b ++ written tells.0) g.1 ∙ append_assoc old.out.bytes (written first) (written tells.0)
                ∙ ap (λ (b : List ℕ). old.out.bytes ++ b) (sym (written-append first tells.0)),
          ),
    )

pub starts-by : (source : Source) (minor : ℕ) (ps qs rs : List Pair) (tenant : Option ℕ) (old new : Talking) (mid : Outgoing) → qs ≡ ps → rs ≡ ps → tenant ≡ tenant_of rs → Says (negotiated minor (options_of qs)) old.out mid
    → Tells (Starts source tenant) (talking old.at mid) new → SendsSome (AnswersPacket source (Startup minor ps)) old new
starts-by source minor ps qs rs tenant old new mid q r is says t =
    starts-from source minor ps tenant old new mid (is ∙ ap tenant_of r) (subst (λ (l : List Pair). Says (negotiated minor (options_of l)) old.out mid) q says) t

-- ---- messages

pub queried : (text : List ℕ) (old new : Talking) (before behind : Spot) (mid : Outgoing) → old.at.spot ≡ Some before → PlaysText text before behind old.out mid → Says (ready (Some behind) ∷ []) mid new.out
    → new.at ≡ record old.at { spot = Some behind } → Tells (PlaysHere text) old new
queried text old new before behind mid was plays says at = (plays.2 ++ ready (Some behind) ∷ [], (ap (λ (s : Standing). s.phase) at, ap (λ (s : Standing). s.work) at, here), told)
  where
    now : PlaysIn text (Some before) (plays.2 ++ ready (Some behind) ∷ []) new.at.spot
    now = (behind, plays.2, plays.0, plays.1, plays.3, ap (λ (s : Standing). s.spot) at, refl)

    here : PlaysIn text old.at.spot (plays.2 ++ ready (Some behind) ∷ []) new.at.spot
    here = subst (λ (s : Option Spot). PlaysIn text s (plays.2 ++ ready (Some behind) ∷ []) new.at.spot) (sym was) now

    told : new.out.failed ≡ false → (old.out.failed ≡ false) × (new.out.bytes ≡ old.out.bytes ++ written (plays.2 ++ ready (Some behind) ∷ []))
    told w =
        let h = says.1 w in
        let g = plays.4 h.0 in (
          g.0,
          h.1 ∙ ap (λ (b : List ℕ). b ++ written (ready (Some behind) ∷ [])) g.1 ∙ append_assoc old.out.bytes (written plays.2) (written (ready (Some behind) ∷ []))
              ∙ ap (λ (b : List ℕ). old.out.bytes ++ b) (sym (written-append plays.2 (ready (Some behind) ∷ []))),
        )

pub not-queried : (text : List ℕ) (old : Talking) → old.at.spot ≡ None → Tells (PlaysHere text) old old
not-queried text old none =
    let here : PlaysIn text old.at.spot [] old.at.spot = subst (λ (s : Option Spot). PlaysIn text s [] s) (sym none) (refl, refl) in
    tells-nothing (PlaysHere text) old old.at (refl, refl, here)

pub as-demanded : (source : Source) (d is : Demanded) (old new : Talking) → d ≡ is → Tells (Meets source is) old new → Tells (Meets source d) old new
as-demanded source d is old new e t = subst (λ (n : Demanded). Tells (Meets source n) old new) (sym e) t

pub answers-demand : (source : Source) (m : Said) (d : Demanded) (old new : Talking) → d ≡ demand_of old.at.phase m → Tells (Meets source d) old new → Tells (AnswersMessage source m) old new
answers-demand source m d old new e t = subst (λ (n : Demanded). Tells (Meets source n) old new) e t
