-- The entries of a tenant with one session are what that session was called with, and so its answers are the one-tenant engine's.
use Rattle.std.proofs.Common.{◌≡◌, ◌∙◌, sym, ap, subst, refl, inl, inr, ℕ, ◌+◌, ◌<◌, Bool, true, false, ◌==◌, cond, List, [], ◌∷◌, ◌++◌, map, Option, Some, None, Result, Ok, Err, append_assoc, append-nil, eq-eqb, eqb-true, ltb-true, codes}
use Rattle.std.specs.Prelude.{⊤}
use Rattle.std.specs.List.{AllByRecursion}
use Rattle.std.proofs.lemmas.Bool.{true≢false, false≢true, false_from_ne_true}
use Rattle.std.proofs.lemmas.List.{map-append}
use Rattle.sb_tenant.specs.declared.bound.Bound.{Bound}
use Rattle.sb_value.specs.declared.refusal.Refusal.TheVariants.{NoMemory}
use Rattle.sb_tenant.specs.declared.reply.Answer.{Answer}
use Rattle.sb_tenant.specs.declared.reply.Entry.{Entry}
use Rattle.sb_tenant.specs.declared.reply.Reply.{Reply}
use Rattle.sb_tenant.specs.declared.reply.Reply.TheVariants.{No}
use Rattle.sb_tenant.specs.declared.reply.Reply.TheVariants as told
use Rattle.sb_tenant.specs.Limits.{session_count}
use Rattle.sb_tenant.specs.State.{State, opening}
use Rattle.sb_tenant.specs.Step.{step}
use Rattle.sb_tenant.specs.Trail.{IsLegal, IsNext, entry_of, state_of}
use Rattle.sb_desk.specs.declared.desk.CallError.{CallError}
use Rattle.sb_desk.specs.declared.desk.CallError.TheVariants as call
use Rattle.sb_desk.specs.declared.receipts.Receipt.{Receipt}
use Rattle.sb_desk.specs.Receipts.{list_by, newcomer, numbered, receipt, receipts_of}
use Rattle.sb_tenant.specs.Closing.{closes}
use Rattle.sb_desk.specs.Calls.{Calls, Session, shown}
use Rattle.sb_host.specs.Finish.{row_at, wanted}
use Rattle.sb_desk.specs.Stubs.{LeavesStub}
use Rattle.sb_desk.specs.declared.stub.Stub.{Stub}
use Rattle.sb_replay.specs.Input.{commands_for}
use Rattle.sb_replay.specs.Alone.{IsServed, TellsAsAlone, opened_text, text_alone, text_behind}
use Rattle.sb_replay.specs.Replay.{Replays, text_at}
use Rattle.sb_replay.specs.Sessions.{Attends, Exchange, Leaves, Plays, commands_in, is_absent, session_text, told_text}

-- a line and its reply
abbrev Pair : Type 0
Pair = List ℕ × Reply

abbrev pair_of : Receipt → Pair
pair_of r = (r.line, r.answer.reply)

-- ---- the entries of one session

module _ (t : ℕ) (bound : Bound) (s : ℕ) where
  -- each pair in turn is the session's next entry
  abbrev AreNext : State → List Pair → Type 0
  AreNext state [] = ⊤
  AreNext state (p ∷ pairs) = (mid : State) × IsNext t bound state (entry_of s p.0 p.1) mid × AreNext mid pairs

  -- where no other session has an entry, these are all
  are-next : (before : State) (n : ℕ) (trail : List Entry) (after : State) → IsLegal t bound before trail after
      → ((o : ℕ) → o < session_count → (o == s) ≡ false → receipts_of o n trail ≡ []) → AreNext before (map pair_of (receipts_of s n trail))
  are-next before n [] after legal others = tt
  are-next before n (e ∷ trail) after (mid, next, legal) others = by (λ h. are-next mid (n + 1) trail after legal h) (e.session == s) refl
    where
      one : Bool → ℕ → List Receipt
      one b o = cond b (receipt e.line (numbered n e.reply) ∷ receipts_of o (n + 1) trail) (receipts_of o (n + 1) trail)

      own-row : one (e.session == e.session) e.session ≡ receipt e.line (numbered n e.reply) ∷ receipts_of e.session (n + 1) trail
      own-row = ap (λ (b : Bool). one b e.session) (eq-eqb e.session e.session refl)

      later : e.session ≡ s → (o : ℕ) → o < session_count → (o == s) ≡ false → receipts_of o (n + 1) trail ≡ []
      later same o is other = ap (λ (b : Bool). one b o) (sym differ) ∙ others o is other
        where
          differ : (e.session == o) ≡ false
          differ = false_from_ne_true (e.session == o) (λ h. false≢true (sym other ∙ eq-eqb o s (sym (eqb-true e.session o h) ∙ same)))

      by : (((o : ℕ) → o < session_count → (o == s) ≡ false → receipts_of o (n + 1) trail ≡ []) → AreNext mid (map pair_of (receipts_of s (n + 1) trail)))
          → (b : Bool) → (e.session == s) ≡ b → AreNext before (map pair_of (one b s))
      by more true is =
          let same = eqb-true e.session s is in
          (mid, subst (λ (o : ℕ). IsNext t bound before (entry_of o e.line e.reply) mid) same next, more (later same))
      by more false is = absurd (let none = sym own-row ∙ others e.session (ltb-true e.session session_count next.0) is in cc)

-- ---- what a session was called with

-- its exchanges up to an `end`: those are entries
abbrev heard_by : List ℕ → Result Answer CallError → List Pair → List Pair
heard_by c (Ok answer) more = (c, answer.reply) ∷ cond (closes c answer.reply) [] more
heard_by c (Err e) more = more

abbrev heard : List Exchange → List Pair
heard [] = []
heard (e ∷ es) = heard_by e.command e.given (heard es)

-- a call of an open session has a numbered answer, up to an `end`; any other is refused
abbrev Talks : Bool → List Exchange → Type 0
Talks ended [] = ⊤
Talks true (e ∷ es) = (e.given ≡ Err call.Ended) × Talks true es
Talks false (e ∷ es) = (answer : Answer) × (e.given ≡ Ok answer) × (answer.reply ≡ No NoMemory → ⊥) × Talks (closes e.command answer.reply) es

abbrev AreServed : List Exchange → Type 0
AreServed es = AllByRecursion (λ e. IsServed e.given) es

numbered-list : (number : Option ℕ) → is_absent number ≡ false → (list : List Receipt) (line : List ℕ) (answer : Answer) → list_by number list line answer ≡ list ++ receipt line answer ∷ []
numbered-list None h list line answer = absurd (true≢false h)
numbered-list (Some n) h list line answer = refl

abbrev Plain : Bool → List Exchange → List Pair
Plain ended es = cond ended [] (heard es)

talks : (es : List Exchange) (old last : Session) → Plays old es last → AreServed es
    → Talks old.ended es × (map pair_of last.list ≡ map pair_of old.list ++ Plain old.ended es)
talks [] old last same served = (tt, ap (λ (x : Session). map pair_of x.list) same ∙ sym (append-nil (map pair_of old.list)) ∙ ap (λ (l : List Pair). map pair_of old.list ++ l) (none old.ended))
  where
    none : (b : Bool) → [] ≡ Plain b []
    none true = refl
    none false = refl
talks (e ∷ es) old last (mid, called, others) (fine, served) = by (talks es mid last others served) e.given refl fine called
  where
    Told : Bool → List Pair → Type 0
    Told b own = Talks b (e ∷ es) × (map pair_of last.list ≡ map pair_of old.list ++ own)

    by : Talks mid.ended es × (map pair_of last.list ≡ map pair_of mid.list ++ Plain mid.ended es)
        → (given : Result Answer CallError) → e.given ≡ given → IsServed given → Calls old e.command given mid → Told old.ended (Plain old.ended (e ∷ es))
    by rest (Err call.NotBegun) is wanted calls = absurd wanted
    by rest (Err call.Ended) is wanted (ended, same) =
        subst (λ (b : Bool). Told b (Plain b (e ∷ es))) (sym ended) (
          (is, subst (λ (b : Bool). Talks b es) (ap (λ (x : Session). x.ended) same ∙ ended) rest.0),
          rest.1 ∙ (λ i. map pair_of (same i).list ++ Plain ((ap (λ (x : Session). x.ended) same ∙ ended) i) es),
        )
    by rest (Ok answer) is wanted (going, number, new, behind) =
        let shut : mid.ended ≡ closes e.command answer.reply = ap (λ (x : Session). x.ended) new in
        let list : mid.list ≡ old.list ++ receipt e.command answer ∷ [] =
        ap (λ (x : Session). x.list) new ∙ numbered-list answer.number wanted.1 old.list e.command answer in
        let own : heard (e ∷ es) ≡ (e.command, answer.reply) ∷ Plain (closes e.command answer.reply) es = ap (λ (g : Result Answer CallError). heard_by e.command g (heard es)) is in
        subst (λ (b : Bool). Told b (Plain b (e ∷ es))) (sym going) (
          (answer, is, wanted.0, subst (λ (b : Bool). Talks b es) shut rest.0),
          rest.1 ∙ (λ i. (ap (map pair_of) list ∙ map-append pair_of old.list (receipt e.command answer ∷ [])) i ++ Plain (shut i) es)
              ∙ append_assoc (map pair_of old.list) ((e.command, answer.reply) ∷ []) (Plain (closes e.command answer.reply) es)
              ∙ ap (λ (l : List Pair). map pair_of old.list ++ l) (sym own),
        )

-- ---- what it is told

module _ (bound : Bound) (t s : ℕ) where
  -- an entry that isn't an abort is the step
  stepped : (before after : State) (c : List ℕ) (answer : Answer) → (answer.reply ≡ No NoMemory → ⊥) → IsNext t bound before (entry_of s c answer.reply) after
      → ((step t bound before s c).0 ≡ after) × ((step t bound before s c).1.reply ≡ answer.reply)
  stepped before after c answer fine (one, inl (other, is)) = (ap (λ (r : State × Answer). r.0) is, ap (λ (r : State × Answer). r.1.reply) is)
  stepped before after c answer fine (one, inr (want, aborted, may)) = absurd (fine want)

  behind : (es : List Exchange) → Talks true es → session_text t s es ≡ text_behind bound t s (commands_in es)
  behind [] talk = refl
  behind (e ∷ es) (is, talk) = λ i. told_text t s (is i) ++ behind es talk i

  -- the same of what comes behind
  abbrev Later : List Exchange → List Pair → Type 0
  Later es tail = (mid : State) → Talks false es → AreNext t bound s mid (heard es ++ tail) → session_text t s es ≡ text_alone bound t s mid (commands_in es)

  as-alone : (es : List Exchange) (state : State) (tail : List Pair) → Talks false es → AreNext t bound s state (heard es ++ tail) → session_text t s es ≡ text_alone bound t s state (commands_in es)
  as-alone [] state tail talk next = refl
  as-alone (e ∷ es) state tail (answer, is, fine, talk) next =
      by (λ mid told more. as-alone es mid tail told more) (subst (λ (l : List Pair). AreNext t bound s state (l ++ tail)) (ap (λ (g : Result Answer CallError). heard_by e.command g (heard es)) is) next)
    where
      shut : Bool
      shut = closes e.command answer.reply

      go : Later es tail → (b : Bool) (mid : State) → shut ≡ b → AreNext t bound s mid (cond b [] (heard es) ++ tail)
          → session_text t s es ≡ cond b (text_behind bound t s (commands_in es)) (text_alone bound t s mid (commands_in es))
      go others true mid h more = behind es (subst (λ (b : Bool). Talks b es) h talk)
      go others false mid h more = others mid (subst (λ (b : Bool). Talks b es) h talk) more

      by : Later es tail → AreNext t bound s state ((e.command, answer.reply) ∷ (cond shut [] (heard es) ++ tail)) → session_text t s (e ∷ es) ≡ text_alone bound t s state (commands_in (e ∷ es))
      by others (mid, own, more) =
          let r = stepped state mid e.command answer fine own in
          ap (λ (g : Result Answer CallError). told_text t s g ++ session_text t s es) is
          ∙ ap (λ (l : List ℕ). told_text t s (Ok answer) ++ l) (go others shut mid refl more)
          ∙ (λ i. told_text t s (Ok (record { number = (step t bound state s e.command).1.number; reply = sym r.1 i }))
          ++ cond (closes e.command (sym r.1 i)) (text_behind bound t s (commands_in es)) (text_alone bound t s (sym r.0 i) (commands_in es)))

  -- a stub's receipts: `open`, the exchanges up to an `end`, and the `end` of closing
  stub-pairs : (es : List Exchange) (n : ℕ) (last : Session) (stub : Stub) → LeavesStub last stub → map pair_of last.list ≡ (codes "open", told.Ok) ∷ heard es
      → (tail : List Pair) × (map pair_of stub.receipts.items ≡ (codes "open", told.Ok) ∷ (heard es ++ tail))
  stub-pairs es n last stub leaves list = by last.ended refl
    where
      by : (b : Bool) → last.ended ≡ b → (tail : List Pair) × (map pair_of stub.receipts.items ≡ (codes "open", told.Ok) ∷ (heard es ++ tail))
      by true is = ([], ap (map pair_of) (leaves.2 is) ∙ list ∙ ap (λ (l : List Pair). (codes "open", told.Ok) ∷ l) (sym (append-nil (heard es))))
      by false is =
          let end = leaves.3 is in (
            (codes "end", told.Ok) ∷ [],
            ap (map pair_of) end.1 ∙ map-append pair_of last.list (receipt (codes "end") (numbered end.0 told.Ok) ∷ []) ∙ ap (λ (l : List Pair). l ++ (codes "end", told.Ok) ∷ []) list,
          )

  -- a session with commands, which are its tenant's only ones
  opened-alone : (es : List Exchange) (stub : Stub) → Leaves t s es stub → AreServed es → (state : State) (trail : List Entry) → IsLegal t bound opening trail state
      → ((o : ℕ) → o < session_count → (o == s) ≡ false → receipts_of o 1 trail ≡ []) → stub.receipts.items ≡ receipts_of s 1 trail
      → session_text t s es ≡ opened_text bound t s (commands_in es)
  opened-alone es stub left served state trail legal others are =
      by (subst (λ (l : List Pair). AreNext t bound s opening l) (ap (map pair_of) (sym are) ∙ pairs.1) (are-next t bound s opening 1 trail state legal others))
    where
      talk : Talks false es × (map pair_of left.last.list ≡ (codes "open", told.Ok) ∷ heard es)
      talk = talks es (shown (newcomer t s left.opening)) left.last left.plays served

      pairs : (tail : List Pair) × (map pair_of stub.receipts.items ≡ (codes "open", told.Ok) ∷ (heard es ++ tail))
      pairs = stub-pairs es left.opening left.last stub left.stub_is talk.1

      by : AreNext t bound s opening ((codes "open", told.Ok) ∷ (heard es ++ pairs.0)) → session_text t s es ≡ opened_text bound t s (commands_in es)
      by (mid, own, more) =
          let r = stepped opening mid (codes "open") (record { number = None; reply = told.Ok }) (λ h. let e = h in cc) own in
          as-alone es (step t bound opening s (codes "open")).0 pairs.0 talk.0 (subst (λ (u : State). AreNext t bound s u (heard es ++ pairs.0)) (sym r.0) more)

  attended-alone : (commands : List (List ℕ)) (entries : List Receipt) (length : ℕ) (text : List ℕ) (a : Attends t s commands entries length text) → AreServed a.exchanges
      → (state : State) (trail : List Entry) → IsLegal t bound opening trail state → entries ≡ receipts_of s 1 trail
      → ((o : ℕ) → o < session_count → (o == s) ≡ false → receipts_of o 1 trail ≡ []) → text ≡ opened_text bound t s commands
  attended-alone [] entries length text a served state trail legal are others = a.text_is ∙ none a.exchanges a.commands_are
    where
      none : (es : List Exchange) → [] ≡ commands_in es → session_text t s es ≡ []
      none [] h = refl
      none (e ∷ es) h = absurd (let x = h in cc)
  attended-alone (c ∷ commands) entries length text a served state trail legal are others =
      let open_ = a.opened (λ h. let e = h in cc) in
      a.text_is ∙ opened-alone a.exchanges open_.0 open_.1 served state trail legal others (open_.2 ∙ are) ∙ ap (opened_text bound t s) (sym a.commands_are)

pub tells-as-alone : (tenants : ℕ) (bound : Bound) (input text : List ℕ) (r : Replays tenants bound input text) → TellsAsAlone r
tells-as-alone tenants bound input text r t s there one only served =
    let trail = row_at r.trails t in
    attended-alone bound t s (commands_for t s r.asks) (wanted t s r.trails) _ (text_at r.texts t s) (r.attends t s there one) served (state_of t bound trail) trail (r.legal.1 t) refl
    (λ o is other. (r.attends t o there is).unopened (only o is other))
