-- An error is told by one message, of which this holds.
use Rattle.std.proofs.Common.{◌≡◌, ℕ, true, false, List, [], ◌∷◌, ◌++◌, Option, Some, Result, Ok, Err, refl, sym, ap, subst, ◌∙◌}
use Rattle.std.proofs.lemmas.List.{append_assoc, append-nil}
use Rattle.std.proofs.lemmas.Grind.{flat_map-append}
use Rattle.std.specs.Prelude.{IfOk, MatchResult}
use Rattle.std.specs.declared.alloc.AllocError.{AllocError}
use Rattle.sb_postgres.specs.declared.told.sqlstate.SqlState.{SqlState}
use Rattle.sb_postgres.specs.Answers.{Answered, SeenColumn, sent}
use Rattle.sb_value.specs.declared.value.ColumnType.{ColumnType}
use Rattle.sb_frontend.specs.declared.describe.Heading.{Heading}
use Rattle.sb_frontend.specs.declared.form.Form.{Form}
use Rattle.sb_frontend.specs.Columns.{column, column_of, heads}
use Rattle.sb_frontend.specs.declared.report.Report.{Report}
use Rattle.sb_frontend.specs.Outputs.{FailsBy, Outgoing, Says, SaysSome, Tells, TellsSome, error_of, written}
use Rattle.sb_frontend.specs.Reports.{details, reported}

-- ---- one behind the other

pub written-append : (a b : List Answered) → written (a ++ b) ≡ written a ++ written b
unfolding written
written-append a b = flat_map-append sent a b

pub says-then : (a b : List Answered) (old mid new : Outgoing) → Says a old mid → Says b mid new → Says (a ++ b) old new
says-then a b old mid new one two = (
  two.0 ∙ one.0,
  λ well.
      let h = two.1 well in
      let g = one.1 h.0 in
      (g.0, h.1 ∙ ap (λ t. t ++ written b) g.1 ∙ append_assoc old.bytes (written a) (written b) ∙ ap (λ t. old.bytes ++ t) (sym (written-append a b))),
)

pub says-failed : (ms : List Answered) (old new : Outgoing) → new ≡ record old { failed = true } → Says ms old new
says-failed ms old new failed =
    (ap (λ (o : Outgoing). o.held) failed, λ well. absurd (let f : true ≡ false = sym (ap (λ (o : Outgoing). o.failed) failed) ∙ well in cc))

pub says-nothing : (old : Outgoing) → Says [] old old
unfolding written
says-nothing old = (refl, λ well. (well, sym (append-nil old.bytes)))

pub tells-then : (a b : List Answered) (held : Option (List ℕ)) (old mid new : Outgoing) → Says a old mid → Tells b held mid new → Tells (a ++ b) held old new
tells-then a b held old mid new one two well =
    let h = two well in
    let g = one.1 h.0 in
    (g.0, h.1 ∙ ap (λ t. t ++ written b) g.1 ∙ append_assoc old.bytes (written a) (written b) ∙ ap (λ t. old.bytes ++ t) (sym (written-append a b)), h.2)

pub holds : (old new : Outgoing) (bytes tag : List ℕ) → bytes ≡ tag → new ≡ record old { held = Some bytes } → Tells [] (Some tag) old new
unfolding written
holds old new bytes tag is e well =
    (sym (ap (λ (o : Outgoing). o.failed) e) ∙ well, ap (λ (o : Outgoing). o.bytes) e ∙ sym (append-nil old.bytes), ap (λ (o : Outgoing). o.held) e ∙ ap (λ t. Some t) is)

pub tells-failed : (ms : List Answered) (held : Option (List ℕ)) (old new : Outgoing) → new ≡ record old { failed = true } → Tells ms held old new
tells-failed ms held old new failed well = absurd (let f : true ≡ false = sym (ap (λ (o : Outgoing). o.failed) failed) ∙ well in cc)

-- ---- some messages

pub says-some : (Is : List Answered → Type 0) (ms : List Answered) (old new : Outgoing) → Is ms → Says ms old new → SaysSome Is old new
says-some Is ms old new is says = (says.0, λ well. let h = says.1 well in (h.0, ms, is, h.1))

pub some-failed : (Is : List Answered → Type 0) (old new : Outgoing) → new ≡ record old { failed = true } → SaysSome Is old new
some-failed Is old new failed =
    (ap (λ (o : Outgoing). o.held) failed, λ well. absurd (let f : true ≡ false = sym (ap (λ (o : Outgoing). o.failed) failed) ∙ well in cc))

pub fails-plain : (state : SqlState) (message : List ℕ) → FailsBy state message (error_of state message ∷ [])
fails-plain state message = (error_of state message, ([], refl), refl)

pub fails-reported : (r : Report) → FailsBy r.state r.message.items (reported r ∷ [])
fails-reported r = (reported r, (details r, refl), refl)

pub says-failure : (state : SqlState) (message : List ℕ) (old new : Outgoing) → Says (error_of state message ∷ []) old new → SaysSome (FailsBy state message) old new
says-failure state message old new says = says-some (FailsBy state message) (error_of state message ∷ []) old new (fails-plain state message) says

pub fails-as : (r : Report) (state : SqlState) (message : List ℕ) (ms : List Answered) → r.state ≡ state → r.message.items ≡ message → FailsBy r.state r.message.items ms → FailsBy state message ms
fails-as r state message ms s m f =
    let g : FailsBy state r.message.items ms = subst (λ (t : SqlState). FailsBy t r.message.items ms) s f in
    subst (λ (t : List ℕ). FailsBy state t ms) m g

-- a report with this state and this message
abbrev pub Reports : SqlState → List ℕ → Report → Type 0
Reports state message r = (r.state ≡ state) × (r.message.items ≡ message)

pub says-made : (made : Result Report AllocError) (state : SqlState) (message : List ℕ) (old new : Outgoing) → IfOk made (Reports state message)
    → MatchResult made (λ r. Says (reported r ∷ []) old new) (λ _. new ≡ record old { failed = true }) → SaysSome (FailsBy state message) old new
says-made (Ok r) state message old new is says =
    says-some (FailsBy state message) (reported r ∷ []) old new (fails-as r state message (reported r ∷ []) is.0 is.1 (fails-reported r)) says
says-made (Err e) state message old new is failed =
    (ap (λ (o : Outgoing). o.held) failed, λ well. absurd (let f : true ≡ false = sym (ap (λ (o : Outgoing). o.failed) failed) ∙ well in cc))

-- these messages, and a tag, of which one holds
pub tells-some : (Is : List Answered → Type 0) (ms : List Answered) (held : Option (List ℕ)) (old new : Outgoing) → Is ms → Tells ms held old new → TellsSome Is held old new
tells-some Is ms held old new is tells well = let h = tells well in (h.0, (ms, is, h.1), h.2)

-- what is said where no tag is held back leaves none
pub says-tells : (Is : List Answered → Type 0) (held : Option (List ℕ)) (old new : Outgoing) → old.held ≡ held → SaysSome Is old new → TellsSome Is held old new
says-tells Is held old new none says well = let h = says.1 well in (h.0, (h.1, h.2, h.3), says.0 ∙ none)

-- behind what is said only a tag is held back
nothing-more : (bytes : List ℕ) → bytes ++ written [] ≡ bytes
unfolding written
nothing-more bytes = append-nil bytes

pub tells-after : (ms : List Answered) (held : Option (List ℕ)) (old mid new : Outgoing) → Says ms old mid → Tells [] held mid new → Tells ms held old new
tells-after ms held old mid new one two well =
    let h = two well in
    let g = one.1 h.0 in
    (g.0, h.1 ∙ nothing-more mid.bytes ∙ g.1, h.2)

pub some-after : (Is : List Answered → Type 0) (held : Option (List ℕ)) (old mid new : Outgoing) → SaysSome Is old mid → Tells [] held mid new → TellsSome Is held old new
some-after Is held old mid new one two well =
    let h = two well in
    let g = one.1 h.0 in
    (g.0, (g.1, g.2, h.1 ∙ nothing-more mid.bytes ∙ g.3), h.2)

-- ---- a column

pub says-headed : (form : Form) (h : Heading) (name : List ℕ) (of : ColumnType) (old new : Outgoing) → (h.name.items ≡ name) × (h.of ≡ of) → Says (heads form (column_of h ∷ [])) old new
    → Says (heads form (column name of ∷ [])) old new
says-headed form h name of old new is says =
    let one : Says (heads form (column name h.of ∷ [])) old new = subst (λ (t : List ℕ). Says (heads form (column t h.of ∷ [])) old new) is.0 says in
    subst (λ (t : ColumnType). Says (heads form (column name t ∷ [])) old new) is.1 one

-- where the columns were told before
pub heads-left : (form : Form) (columns : List SeenColumn) (o : Outgoing) → form.described ≡ false → Says (heads form columns) o o
heads-left form columns o e = rw e (says-nothing o)
