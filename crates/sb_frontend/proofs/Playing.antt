-- Where memory has run out for a message, something may be said of those that would have been told.
use Rattle.std.proofs.Common.{◌≡◌, ℕ, Bool, true, false, not, ◌&&◌, List, [], ◌∷◌, ◌++◌, map, Option, Some, None, is_some, Result, Ok, Err, codes, refl, sym, ap, ◌∙◌, subst, append_assoc, append-nil, inl}
use Rattle.std.specs.Prelude.{MatchBool}
use Rattle.sb_postgres.specs.declared.query.error.QueryError.{QueryError}
use Rattle.sb_postgres.specs.declared.query.error.QueryError.TheVariants as errors
use Rattle.sb_postgres.specs.declared.query.kind.StatementKind.{StatementKind}
use Rattle.sb_postgres.specs.declared.query.kind.StatementKind.TheVariants as k
use Rattle.sb_postgres.specs.declared.told.sqlstate.SqlState.{SqlState}
use Rattle.sb_postgres.specs.declared.told.sqlstate.SqlState.TheVariants as state
use Rattle.sb_postgres.specs.Answers.{Answered, EmptyQueryResponse}
use Rattle.sb_postgres.specs.Settings.{setting_of}
use Rattle.sb_postgres.specs.SqlStates.{state_of}
use Rattle.sb_postgres.specs.Wordings.{message_of}
use Rattle.sb_value.specs.declared.refusal.Refusal.{Refusal}
use Rattle.sb_frontend.specs.declared.form.Form.{Form}
use Rattle.sb_frontend.specs.Columns.{heads, with_columns}
use Rattle.sb_frontend.specs.Considerations.{notices}
use Rattle.sb_postgres.specs.Kinds.{kind_of}
use Rattle.sb_postgres.specs.Lines.{Lines, end, ending, line}
use Rattle.sb_postgres.specs.Statements.{EndsAs, HasLines, IsNext, Leaves, place_of, text_of}
use Rattle.sb_postgres.specs.declared.query.statement.Statement.{Statement}
use Rattle.sb_postgres.specs.declared.query.statements.Statements.{Statements}
use Rattle.sb_frontend.specs.Replies.{Replied, goes_well}
use Rattle.sb_frontend.specs.Replies as told
use Rattle.sb_frontend.specs.Plays.{Begins, Calls, Commits, EndsBy, GivesUp, GoesOn, IsEndedBy, IsLookedAt, PlaysAll, PlaysOne, Queries, Runs, Sends, Spot, breaks, empty, finished, goes_on, kept, needs_transaction, owned, played, stops, unread}
use Rattle.sb_frontend.specs.Outputs.{Extends, FailsBy, Holds, Outgoing, Says, SaysSome, Tells, TellsSome, completed, error_of, written}
use Rattle.sb_frontend.specs.Rows.{data_row}
use Rattle.sb_frontend.specs.Scripts.{TellsUnread, fault_state, fault_text}
use Rattle.sb_frontend.specs.Stepless.{TellsSetting, TellsWithout, name_shown, unsupported_text, warnings, without_tag}
use Rattle.sb_frontend.specs.Tellings.{Refuses, TellsOwn, TellsReply, by_limit_text, by_rule_text, defines, reply_tag, unbegun_text}
use Rattle.sb_frontend.proofs.Saying.{fails-plain, says-nothing, tells-then, written-append}

-- messages of which this holds
abbrev pub Some_said : (List Answered → Type 0) → Type 0
Some_said Is = (ms : List Answered) × Is ms

pub say-anyway : (Is : List Answered → Type 0) (old new : Outgoing) → Some_said Is → SaysSome Is old new → (ms : List Answered) × Is ms × Says ms old new
say-anyway Is old new some h = go new.failed refl
  where
    go : (b : Bool) → new.failed ≡ b → (ms : List Answered) × Is ms × Says ms old new
    go true e = (some.0, some.1, (h.0, λ well. absurd (let f : true ≡ false = sym e ∙ well in cc)))
    go false e = let g = h.1 e in (g.1, g.2, (h.0, λ well. (g.0, g.3)))

pub tell-anyway : (Is : List Answered → Type 0) (held : Option (List ℕ)) (old new : Outgoing) → Some_said Is → TellsSome Is held old new → (ms : List Answered) × Is ms × Tells ms held old new
tell-anyway Is held old new some h = go new.failed refl
  where
    go : (b : Bool) → new.failed ≡ b → (ms : List Answered) × Is ms × Tells ms held old new
    go true e = (some.0, some.1, λ well. absurd (let f : true ≡ false = sym e ∙ well in cc))
    go false e = let g = h e in (g.1.0, g.1.1, λ well. (g.0, g.1.2, g.2))

-- ---- what would be told

failure : (s : SqlState) (message : List ℕ) → Some_said (FailsBy s message)
failure s message = (error_of s message ∷ [], fails-plain s message)

refusal-told : (d : Bool) (r : Refusal) → Some_said (Refuses d r)
refusal-told d r = (error_of (state_of d r) (message_of r None) ∷ [], (message_of r None, inl (None, refl), fails-plain (state_of d r) (message_of r None)))

pub own-told : (reply : Replied) → Some_said (TellsOwn reply)
own-told told.Done = ([], refl)
own-told (told.Changed count) = ([], refl)
own-told (told.Found rows) = ([], refl)
own-told (told.Processed rules) = (notices rules, refl)
own-told (told.ByRule rule rules) = failure state.RaiseException (by_rule_text rule)
own-told (told.ByError rule error rules) = refusal-told false error
own-told (told.ByLimit rules) = failure state.StatementTooComplex by_limit_text
own-told (told.Refused r) = refusal-told false r
own-told told.NotBegun = failure state.OutOfMemory unbegun_text

pub reply-told : (form : Form) (kind : StatementKind) (reply : Replied) → Some_said (TellsReply form kind reply)
reply-told form kind told.Done = ([], refl)
reply-told form kind (told.Changed count) = ([], refl)
reply-told form kind (told.Found rows) = (heads form [] ++ map data_row rows, ([], λ r. refl))
reply-told form kind (told.Processed rules) = (notices rules, refl)
reply-told form kind (told.ByRule rule rules) = failure state.RaiseException (by_rule_text rule)
reply-told form kind (told.ByError rule error rules) = refusal-told false error
reply-told form kind (told.ByLimit rules) = failure state.StatementTooComplex by_limit_text
reply-told form kind (told.Refused r) = refusal-told (defines kind) r
reply-told form kind told.NotBegun = failure state.OutOfMemory unbegun_text

setting-told : (form : Form) (name : List ℕ) (value : Option (List ℕ)) → Some_said (TellsSetting form name value)
setting-told form name (Some value) = (_, refl)
setting-told form name None = failure state.UndefinedObject (codes "unrecognized configuration parameter")

pub without-told : (form : Form) (kind : StatementKind) (bytes : List ℕ) (has own : Bool) → Some_said (TellsWithout form kind bytes has own)
without-told form k.Begin bytes has own = (warnings k.Begin has own, refl)
without-told form k.Commit bytes has own = (warnings k.Commit has own, refl)
without-told form k.Rollback bytes has own = (warnings k.Rollback has own, refl)
without-told form k.Setting bytes has own = ([], refl)
without-told form k.SelectOne bytes has own = (_, refl)
without-told form k.SelectVersion bytes has own = (_, refl)
without-told form k.SelectSchema bytes has own = (_, refl)
without-told form k.Show bytes has own = setting-told form (name_shown bytes) (setting_of (name_shown bytes))
without-told form k.Unsupported bytes has own = failure state.FeatureNotSupported (unsupported_text bytes)
without-told form k.Definition bytes has own = failure state.FeatureNotSupported (unsupported_text bytes)
without-told form k.Process bytes has own = failure state.FeatureNotSupported (unsupported_text bytes)
without-told form k.Statement bytes has own = failure state.FeatureNotSupported (unsupported_text bytes)

pub unread-told : (error : QueryError) → Some_said (TellsUnread error)
unread-told errors.Memory = failure state.OutOfMemory (codes "out of memory")
unread-told (errors.Refused r) = failure (fault_state r.fault) (fault_text r.fault)

-- ---- a transaction that is begun or ended unasked

pub begins-not : (needed : Bool) (old : Spot) (o : Outgoing) → needed ≡ false → (ms : List Answered) × Begins needed old ms true old × Says ms o o
begins-not needed old o e = subst (λ (n : Bool). (ms : List Answered) × Begins n old ms true old × Says ms o o) (sym e) ([], (refl, refl, refl), says-nothing o)

-- a call that tells what is to be told of its reply
abbrev pub CallsOwn : List ℕ → Spot → Outgoing → Bool → Spot → Outgoing → Type 0
CallsOwn bytes old o well new o' = (reply : Replied) × Calls bytes reply old new × SaysSome (TellsOwn reply) o o' × (well ≡ goes_well reply)

pub begins-told : (needed : Bool) (old new : Spot) (o o' : Outgoing) (well : Bool) → needed ≡ true → CallsOwn (codes "begin") (owned true old) o well new o'
    → (ms : List Answered) × Begins needed old ms well new × Says ms o o'
begins-told needed old new o o' well e c =
    let told = say-anyway (TellsOwn c.0) o o' (own-told c.0) c.2 in
    subst (λ (n : Bool). (ms : List Answered) × Begins n old ms well new × Says ms o o') (sym e) (told.0, (c.0, c.1, told.1, c.3), told.2)

pub commits-not : (old : Spot) (o : Outgoing) (b : Bool) → b ≡ (old.own && old.has) → b ≡ false → (ms : List Answered) × Commits old ms true (owned false old) × Says ms o o
commits-not old o b is e =
    let none : (old.own && old.has) ≡ false = sym is ∙ e in
    ([], rw none (refl, refl, refl), says-nothing o)

pub commits-told : (old new : Spot) (o o' : Outgoing) (b well : Bool) → b ≡ (old.own && old.has) → b ≡ true → CallsOwn (codes "commit") (owned false old) o well new o'
    → (ms : List Answered) × Commits old ms well new × Says ms o o'
commits-told old new o o' b well is e c =
    let told = say-anyway (TellsOwn c.0) o o' (own-told c.0) c.2 in
    let some : (old.own && old.has) ≡ true = sym is ∙ e in
    (told.0, rw some (c.0, c.1, told.1, c.3), told.2)

-- where another one is the session's
pub commits-not-as : (old is : Spot) (o : Outgoing) (b : Bool) → is ≡ old → b ≡ (old.own && old.has) → b ≡ false → (ms : List Answered) × Commits old ms true (owned false is) × Says ms o o
commits-not-as old is o b e own none = subst (λ (s : Spot). (ms : List Answered) × Commits old ms true (owned false s) × Says ms o o) (sym e) (commits-not old o b own none)

pub commits-told-as : (old is new : Spot) (o o' : Outgoing) (b well : Bool) → is ≡ old → b ≡ (old.own && old.has) → b ≡ true → CallsOwn (codes "commit") (owned false is) o well new o'
    → (ms : List Answered) × Commits old ms well new × Says ms o o'
commits-told-as old is new o o' b well e own some c = commits-told old new o o' b well own some (subst (λ (s : Spot). CallsOwn (codes "commit") (owned false s) o well new o') e c)

-- ---- a statement

pub sends-line : (form : Form) (kind : StatementKind) (bytes sent : List ℕ) (found : Option (List ℕ)) (reply : Replied) (old new : Spot) (o o' : Outgoing) (well : Bool) → found ≡ Some sent → Calls sent reply old new
    → TellsSome (TellsReply form kind reply) (reply_tag kind bytes reply) o o' → well ≡ is_some (reply_tag kind bytes reply)
    → (ms : List Answered) × (tag : Option (List ℕ)) × Sends form kind bytes found old ms tag new × (well ≡ is_some tag) × Tells ms tag o o'
sends-line form kind bytes sent found reply old new o o' well e calls t w =
    let told = tell-anyway (TellsReply form kind reply) (reply_tag kind bytes reply) o o' (reply-told form kind reply) t in
    subst (λ (f : Option (List ℕ)). (ms : List Answered) × (tag : Option (List ℕ)) × Sends form kind bytes f old ms tag new × (well ≡ is_some tag) × Tells ms tag o o') (sym e)
    (told.0, reply_tag kind bytes reply, (reply, calls, told.1, refl), w, told.2)

pub sends-none : (form : Form) (kind : StatementKind) (bytes : List ℕ) (found : Option (List ℕ)) (old : Spot) (o o' : Outgoing) (well : Bool) → found ≡ None
    → TellsSome (TellsWithout form kind bytes old.has old.own) (without_tag kind bytes) o o' → well ≡ is_some (without_tag kind bytes)
    → (ms : List Answered) × (tag : Option (List ℕ)) × Sends form kind bytes found old ms tag old × (well ≡ is_some tag) × Tells ms tag o o'
sends-none form kind bytes found old o o' well e t w =
    let told = tell-anyway (TellsWithout form kind bytes old.has old.own) (without_tag kind bytes) o o' (without-told form kind bytes old.has old.own) t in
    subst (λ (f : Option (List ℕ)). (ms : List Answered) × (tag : Option (List ℕ)) × Sends form kind bytes f old ms tag old × (well ≡ is_some tag) × Tells ms tag o o') (sym e)
    (told.0, without_tag kind bytes, (refl, told.1, refl), w, told.2)

-- by what is known of the session
pub sends-none-as : (form : Form) (kind : StatementKind) (bytes : List ℕ) (found : Option (List ℕ)) (old : Spot) (o o' : Outgoing) (well has own : Bool) → has ≡ old.has → own ≡ old.own → found ≡ None
    → TellsSome (TellsWithout form kind bytes has own) (without_tag kind bytes) o o' → well ≡ is_some (without_tag kind bytes)
    → (ms : List Answered) × (tag : Option (List ℕ)) × Sends form kind bytes found old ms tag old × (well ≡ is_some tag) × Tells ms tag o o'
sends-none-as form kind bytes found old o o' well has own h w e t is =
    let one : TellsSome (TellsWithout form kind bytes old.has own) (without_tag kind bytes) o o' = subst (λ (b : Bool). TellsSome (TellsWithout form kind bytes b own) (without_tag kind bytes) o o') h t in
    sends-none form kind bytes found old o o' well e (subst (λ (b : Bool). TellsSome (TellsWithout form kind bytes old.has b) (without_tag kind bytes) o o') w one) is

pub plays-begun : (form : Form) (bytes : List ℕ) (needed : Bool) (old begun new : Spot) (o mid o' : Outgoing) (begins well : Bool) → needed ≡ (needs_transaction (kind_of bytes) && not old.has) → begins ≡ true
    → ((ms : List Answered) × Begins needed old ms begins begun × Says ms o mid)
    → ((ms : List Answered) × (tag : Option (List ℕ)) × Runs form bytes begun ms tag new × (well ≡ is_some tag) × Tells ms tag mid o')
    → (ms : List Answered) × (tag : Option (List ℕ)) × PlaysOne form bytes old ms tag new × (well ≡ is_some tag) × Tells ms tag o o'
plays-begun form bytes needed old begun new o mid o' begins well is e b r =
    let first : Begins (needs_transaction (kind_of bytes) && not old.has) old b.0 begins begun = subst (λ (n : Bool). Begins n old b.0 begins begun) is b.1 in
    let all : MatchBool begins ((behind : List Answered) × Runs form bytes begun behind r.1 new × (b.0 ++ r.0 ≡ b.0 ++ behind)) (GivesUp begun new × (r.1 ≡ None) × (b.0 ++ r.0 ≡ b.0)) = rw e (r.0, r.2, refl) in
    (b.0 ++ r.0, r.1, (begun, b.0, begins, first, all), r.3, tells-then b.0 r.0 r.1 o mid o' b.2 r.4)

pub plays-not : (form : Form) (bytes : List ℕ) (needed : Bool) (old begun new : Spot) (o o' : Outgoing) (begins : Bool) → needed ≡ (needs_transaction (kind_of bytes) && not old.has) → begins ≡ false → o.held ≡ None
    → ((ms : List Answered) × Begins needed old ms begins begun × Says ms o o') → GivesUp begun new
    → (ms : List Answered) × (tag : Option (List ℕ)) × PlaysOne form bytes old ms tag new × (false ≡ is_some tag) × Tells ms tag o o'
plays-not form bytes needed old begun new o o' begins is e none b g =
    let first : Begins (needs_transaction (kind_of bytes) && not old.has) old b.0 begins begun = subst (λ (n : Bool). Begins n old b.0 begins begun) is b.1 in
    let all : MatchBool begins ((behind : List Answered) × Runs form bytes begun behind None new × (b.0 ≡ b.0 ++ behind)) (GivesUp begun new × (◌≡◌ {A = Option (List ℕ)} None None) × (b.0 ≡ b.0)) = rw e (g, refl, refl) in
    (b.0, None, (begun, b.0, begins, first, all), refl, λ well. let h = b.2.1 well in (h.0, h.1, b.2.0 ∙ none))

-- ---- all statements of a query

-- what is told of a tag, and then these
tag-then : (tag : Option (List ℕ)) (ms : List Answered) (o mid o' : Outgoing) → Holds tag o → Tells (completed o.held) None o mid → Extends ms mid o' → Extends (completed tag ++ ms) o o'
tag-then tag ms o mid o' holds told more well =
    let h = more well in
    let g = told h.0 in
    let is : o.held ≡ tag = holds g.0 in (
      g.0,
      h.1 ∙ ap (λ t. t ++ written ms) g.1 ∙ append_assoc o.bytes (written (completed o.held)) (written ms)
          ∙ ap (λ t. o.bytes ++ t) (sym (written-append (completed o.held) ms)) ∙ ap (λ (t : Option (List ℕ)). o.bytes ++ written (completed t ++ ms)) is,
    )

says-extends : (ms : List Answered) (o o' : Outgoing) → Says ms o o' → Extends ms o o'
says-extends ms o o' says = says.1

pub breaks-off : (tag : Option (List ℕ)) (ls : Lines) (error : QueryError) (old new : Spot) (o mid o' : Outgoing) → Holds tag o → IsEndedBy error ls → Tells (completed o.held) None o mid
    → SaysSome (TellsUnread error) mid o' → GivesUp old new → (ms : List Answered) × PlaysAll tag ls old ms new × Extends ms o o'
breaks-off tag ls error old new o mid o' holds ended told says gives =
    let unread = say-anyway (TellsUnread error) mid o' (unread-told error) says in
    (completed tag ++ unread.0, breaks error unread.0 ended unread.1 gives refl, tag-then tag unread.0 o mid o' holds told (says-extends unread.0 mid o' unread.2))

pub finishes-well : (tag : Option (List ℕ)) (old new : Spot) (o mid o' : Outgoing) (well : Bool) → Holds tag o → well ≡ true → ((ms : List Answered) × Commits old ms well new × Says ms o mid)
    → Tells (completed mid.held) None mid o' → (ms : List Answered) × PlaysAll tag end old ms new × Extends ms o o'
finishes-well tag old new o mid o' well holds e c told = (
  c.0 ++ completed tag,
  finished c.0 well c.1 (ap (λ (b : Bool). c.0 ++ completed (kept b tag)) (sym e)),
  λ w.
      let h = told w in
      let g = c.2.1 h.0 in
      let is : mid.held ≡ tag = c.2.0 ∙ holds g.0 in (
        g.0,
        h.1 ∙ ap (λ t. t ++ written (completed mid.held)) g.1 ∙ append_assoc o.bytes (written c.0) (written (completed mid.held))
            ∙ ap (λ t. o.bytes ++ t) (sym (written-append c.0 (completed mid.held))) ∙ ap (λ (t : Option (List ℕ)). o.bytes ++ written (c.0 ++ completed t)) is,
      ),
)

pub finishes-badly : (tag : Option (List ℕ)) (old new : Spot) (o mid o' : Outgoing) (well : Bool) → well ≡ false → ((ms : List Answered) × Commits old ms well new × Says ms o mid)
    → o' ≡ record mid { held = None } → (ms : List Answered) × PlaysAll tag end old ms new × Extends ms o o'
finishes-badly tag old new o mid o' well e c forgot = (
  c.0,
  finished c.0 well c.1 (sym (append-nil c.0) ∙ ap (λ (b : Bool). c.0 ++ completed (kept b tag)) (sym e)),
  λ w.
      let m : mid.failed ≡ false = sym (ap (λ (x : Outgoing). x.failed) forgot) ∙ w in
      let g = c.2.1 m in
      (g.0, ap (λ (x : Outgoing). x.bytes) forgot ∙ g.1),
)

pub plays-next : (tag : Option (List ℕ)) (bytes places : List ℕ) (more : Lines) (old new : Spot) (o mid o' : Outgoing) (well : Bool) (Left : Lines → Type 0) → Holds tag o → Left more
    → Tells (completed o.held) None o mid → ((ms : List Answered) × (next : Option (List ℕ)) × PlaysOne with_columns bytes old ms next new × (well ≡ is_some next) × Tells ms next mid o')
    → (ms : List Answered) × Extends ms o o' × GoesOn tag (line bytes places more) old ms well (λ next ls. Holds next o' × Left ls) new
plays-next tag bytes places more old new o mid o' well Left holds left told p = go p.1 refl p.2 p.3
  where
    extends : Extends p.0 mid o'
    extends w = let h = p.4 w in (h.0, h.1)

    held : Holds p.1 o'
    held w = (p.4 w).2

    go : (next : Option (List ℕ)) → p.1 ≡ next → PlaysOne with_columns bytes old p.0 p.1 new → well ≡ is_some p.1
        → (ms : List Answered) × Extends ms o o' × GoesOn tag (line bytes places more) old ms well (λ next ls. Holds next o' × Left ls) new
    go None is one w =
        let stop : PlaysOne with_columns bytes old p.0 None new = subst (λ (t : Option (List ℕ)). PlaysOne with_columns bytes old p.0 t new) is one in
        let over : GoesOn tag (line bytes places more) old (completed tag ++ p.0) false (λ next ls. Holds next o' × Left ls) new = stops p.0 stop refl in
        (completed tag ++ p.0, tag-then tag p.0 o mid o' holds told extends, subst (λ (b : Bool). GoesOn tag (line bytes places more) old (completed tag ++ p.0) b (λ next ls. Holds next o' × Left ls) new) (sym (w ∙ ap is_some is)) over)
    go (Some t) is one w =
        let on : GoesOn tag (line bytes places more) old (completed tag ++ p.0) true (λ next ls. Holds next o' × Left ls) new =
        (p.1, more, (held, left), λ behind last rest. goes_on p.1 new p.0 behind one (ap is_some is) rest (append_assoc (completed tag) p.0 behind)) in
        (completed tag ++ p.0, tag-then tag p.0 o mid o' holds told extends, subst (λ (b : Bool). GoesOn tag (line bytes places more) old (completed tag ++ p.0) b (λ next ls. Holds next o' × Left ls) new) (sym (w ∙ ap is_some is)) on)

-- ---- the next statement

pub next-none : (ls : Lines) (left : Statements) (r : Result (Option Statement) QueryError) → IsNext ls left r → r ≡ Ok None → ls ≡ end
next-none ls left r is e = subst (λ (t : Result (Option Statement) QueryError). IsNext ls left t) e is

ended-by : (ls : Lines) (left : Statements) (error : QueryError) → IsNext ls left (Err error) → IsEndedBy error ls
ended-by ls left errors.Memory is = tt
ended-by ls left (errors.Refused r) is = is

pub next-error : (ls : Lines) (left : Statements) (r : Result (Option Statement) QueryError) (error : QueryError) → IsNext ls left r → r ≡ Err error → IsEndedBy error ls
next-error ls left r error is e = ended-by ls left error (subst (λ (t : Result (Option Statement) QueryError). IsNext ls left t) e is)

pub next-some : (ls : Lines) (left : Statements) (r : Result (Option Statement) QueryError) (s : Statement) → IsNext ls left r → r ≡ Ok (Some s)
    → (more : Lines) × Leaves left more × (ls ≡ line s.line.items s.origins.items more)
next-some ls left r s is e = let h = subst (λ (t : Result (Option Statement) QueryError). IsNext ls left t) e is in (h.0, h.1.0, h.1.1)

-- so far
abbrev pub PlayedTo : Option (List ℕ) → Lines → Spot → List Answered → Option (List ℕ) → Lines → Spot → Type 0
PlayedTo tag ls old ms next more mid = (behind : List Answered) (new : Spot) → PlaysAll next more mid behind new → PlaysAll tag ls old (ms ++ behind) new

extends-more : (a b : List Answered) (o mid o' : Outgoing) → Extends a o mid → Extends b mid o' → Extends (a ++ b) o o'
extends-more a b o mid o' one two well =
    let h = two well in
    let g = one h.0 in
    (g.0, h.1 ∙ ap (λ t. t ++ written b) g.1 ∙ append_assoc o.bytes (written a) (written b) ∙ ap (λ t. o.bytes ++ t) (sym (written-append a b)))

-- what a loop over statements keeps
abbrev pub PlaysUpTo : (Lines → Type 0) → Spot → Outgoing → (Lines → Type 0) → Spot → Outgoing → Type 0
PlaysUpTo Before old o After mid o' =
    (tag : Option (List ℕ)) → Holds tag o → (ls : Lines) → Before ls
    → (next : Option (List ℕ)) × (more : Lines) × (ms : List Answered) × Holds next o' × After more × Extends ms o o' × PlayedTo tag ls old ms next more mid

pub nothing-played : (Before : Lines → Type 0) (old : Spot) (o : Outgoing) → PlaysUpTo Before old o Before old o
unfolding written
nothing-played Before old o tag holds ls before =
    (tag, ls, [], holds, before, λ w. (w, sym (append-nil o.bytes)), λ behind new rest. rest)

pub one-more-played : (Before After Left : Lines → Type 0) (old mid new : Spot) (o m o' : Outgoing) (well : Bool) → well ≡ true → PlaysUpTo Before old o After mid m
    → ((tag : Option (List ℕ)) → Holds tag m → (ls : Lines) → After ls → (ms : List Answered) × Extends ms m o' × GoesOn tag ls mid ms well (λ next more. Holds next o' × Left more) new)
    → PlaysUpTo Before old o Left new o'
one-more-played Before After Left old mid new o m o' well e so_far step tag holds ls before =
    let h = so_far tag holds ls before in
    let s = step h.0 h.3 h.1 h.4 in
    let g : GoesOn h.0 h.1 mid s.0 true (λ next more. Holds next o' × Left more) new = subst (λ (b : Bool). GoesOn h.0 h.1 mid s.0 b (λ next more. Holds next o' × Left more) new) e s.2 in (
      g.0,
      g.1,
      h.2 ++ s.0,
      g.2.0,
      g.2.1,
      extends-more h.2 s.0 o m o' h.5 s.1,
      λ behind last rest.
          subst (λ (ms : List Answered). PlaysAll tag ls old ms last) (sym (append_assoc h.2 s.0 behind)) (h.6 (s.0 ++ behind) last (g.3 behind last rest)),
    )

pub all-played : (Before After Left : Lines → Type 0) (old mid new : Spot) (o m o' : Outgoing) (well : Bool) → well ≡ false → PlaysUpTo Before old o After mid m
    → ((tag : Option (List ℕ)) → Holds tag m → (ls : Lines) → After ls → (ms : List Answered) × Extends ms m o' × GoesOn tag ls mid ms well (λ next more. Holds next o' × Left more) new)
    → (tag : Option (List ℕ)) → Holds tag o → (ls : Lines) → Before ls → (ms : List Answered) × PlaysAll tag ls old ms new × Extends ms o o'
all-played Before After Left old mid new o m o' well e so_far step tag holds ls before =
    let h = so_far tag holds ls before in
    let s = step h.0 h.3 h.1 h.4 in
    let g : PlaysAll h.0 h.1 mid s.0 new = subst (λ (b : Bool). GoesOn h.0 h.1 mid s.0 b (λ next more. Holds next o' × Left more) new) e s.2 in
    (h.2 ++ s.0, h.6 s.0 new g, extends-more h.2 s.0 o m o' h.5 s.1)

-- ---- a text

pub leaves-all : (s : Statements) (text : List ℕ) (ls : Lines) → place_of s ≡ 0 → text_of s ≡ text → HasLines 0 text ls → Leaves s ls
leaves-all s text ls place is lines =
    let one : HasLines s.at text ls = subst (λ (n : ℕ). HasLines n text ls) (sym place) lines in
    subst (λ (t : List ℕ). HasLines s.at t ls) (sym is) one

pub lines-all : (s : Statements) (text : List ℕ) (ls : Lines) → place_of s ≡ 0 → text_of s ≡ text → Leaves s ls → HasLines 0 text ls
lines-all s text ls place is leaves =
    let one : HasLines s.at text ls = subst (λ (t : List ℕ). HasLines s.at t ls) is leaves in
    subst (λ (n : ℕ). HasLines n text ls) place one

checked : (ls : Lines) (error : QueryError) → EndsAs ls (Err error) → EndsBy error ls
checked ls errors.Memory is = tt
checked ls (errors.Refused r) is = is

not-next : (ls : Lines) (left : Statements) (error : QueryError) → IsNext ls left (Err error) → EndsBy error ls
not-next ls left errors.Memory is = tt
not-next ls left (errors.Refused r) is = ap ending is

-- the lines of a text, as they are looked at
abbrev pub LooksAt : List ℕ → Result Bool QueryError → Type 0
LooksAt text r = (ls : Lines) × HasLines 0 text ls × IsLookedAt ls r

pub check-fails : (s : Statements) (text : List ℕ) (error : QueryError) → place_of s ≡ 0 → text_of s ≡ text → ((ls : Lines) × Leaves s ls) → ((ls : Lines) → Leaves s ls → EndsAs ls (Err error)) → LooksAt text (Err error)
check-fails s text error place is found ends = (found.0, lines-all s text found.0 place is found.1, checked found.0 error (ends found.0 found.1))

pub first-fails : (s left : Statements) (text : List ℕ) (error : QueryError) → place_of s ≡ 0 → text_of s ≡ text → ((ls : Lines) × Leaves s ls) → ((ls : Lines) → Leaves s ls → IsNext ls left (Err error)) → LooksAt text (Err error)
first-fails s left text error place is found next = (found.0, lines-all s text found.0 place is found.1, not-next found.0 left error (next found.0 found.1))

looked : (ls : Lines) (left : Statements) (first : Option Statement) → ending ls ≡ None → IsNext ls left (Ok first) → IsLookedAt ls (Ok (is_some first))
looked ls left None ended is = is
looked ls left (Some s) ended is = ended

pub first-found : (s left : Statements) (text : List ℕ) (u : Unit {0}) (first : Option Statement) (b : Bool) → place_of s ≡ 0 → text_of s ≡ text → ((ls : Lines) × Leaves s ls)
    → ((ls : Lines) → Leaves s ls → EndsAs ls (Ok u)) → ((ls : Lines) → Leaves s ls → IsNext ls left (Ok first)) → b ≡ is_some first → LooksAt text (Ok b)
first-found s left text u first b place is found ends next some =
    let at : IsLookedAt found.0 (Ok (is_some first)) = looked found.0 left first (ends found.0 found.1) (next found.0 found.1) in
    (found.0, lines-all s text found.0 place is found.1, subst (λ (t : Bool). IsLookedAt found.0 (Ok t)) (sym some) at)

-- ---- a query

-- nothing is held back any more
from-forgotten : (ms : List Answered) (o mid o' : Outgoing) → mid ≡ record o { held = None } → Extends ms mid o' → Extends ms o o'
from-forgotten ms o mid o' forgot more w =
    let h = more w in
    (sym (ap (λ (x : Outgoing). x.failed) forgot) ∙ h.0, h.1 ∙ ap (λ (x : Outgoing). x.bytes ++ written ms) forgot)

abbrev pub PlaysText : List ℕ → Spot → Spot → Outgoing → Outgoing → Type 0
PlaysText text old new o o' = (ls : Lines) × HasLines 0 text ls × (ms : List Answered) × Queries ls old ms new × Extends ms o o'

pub text-played : (text : List ℕ) (r : Result Bool QueryError) (s : Statements) (old new : Spot) (o mid o' : Outgoing) → mid ≡ record o { held = None } → LooksAt text r → r ≡ Ok true → place_of s ≡ 0 → text_of s ≡ text
    → ((tag : Option (List ℕ)) → Holds tag mid → (ls : Lines) → Leaves s ls → (ms : List Answered) × PlaysAll tag ls old ms new × Extends ms mid o') → PlaysText text old new o o'
text-played text r s old new o mid o' forgot at e place is plays =
    let ended : ending at.0 ≡ None = subst (λ (t : Result Bool QueryError). IsLookedAt at.0 t) e at.2 in
    let p = plays None (λ w. ap (λ (x : Outgoing). x.held) forgot) at.0 (leaves-all s text at.0 place is at.1) in
    (at.0, at.1, p.0, played ended p.1, from-forgotten p.0 o mid o' forgot p.2)

pub text-empty : (text : List ℕ) (r : Result Bool QueryError) (old : Spot) (o mid o' : Outgoing) → mid ≡ record o { held = None } → LooksAt text r → r ≡ Ok false → Says (EmptyQueryResponse ∷ []) mid o' → PlaysText text old old o o'
text-empty text r old o mid o' forgot at e says =
    let none : at.0 ≡ end = subst (λ (t : Result Bool QueryError). IsLookedAt at.0 t) e at.2 in
    (at.0, at.1, EmptyQueryResponse ∷ [], subst (λ (l : Lines). Queries l old (EmptyQueryResponse ∷ []) old) (sym none) empty, from-forgotten (EmptyQueryResponse ∷ []) o mid o' forgot says.1)

pub text-unread : (text : List ℕ) (r : Result Bool QueryError) (error : QueryError) (old : Spot) (o mid o' : Outgoing) → mid ≡ record o { held = None } → LooksAt text r → r ≡ Err error → SaysSome (TellsUnread error) mid o' → PlaysText text old old o o'
text-unread text r error old o mid o' forgot at e says =
    let ended : EndsBy error at.0 = subst (λ (t : Result Bool QueryError). IsLookedAt at.0 t) e at.2 in
    let told = say-anyway (TellsUnread error) mid o' (unread-told error) says in
    (at.0, at.1, told.0, unread error ended told.1, from-forgotten told.0 o mid o' forgot told.2.1)
