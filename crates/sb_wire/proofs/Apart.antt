-- A line changes nothing of another tenant and tells it nothing, so each is told what it would be told alone.
use Rattle.std.proofs.Common.{◌≡◌, ◌∙◌, sym, ap, subst, refl, ◌⊎◌, inl, inr, ℕ, Bool, true, false, ◌==◌, cond, List, [], ◌∷◌, ◌++◌, Option, Some, None, IsTrue, append_assoc, append-nil, eq-eqb, eqb-true, codes}
use Rattle.std.specs.Prelude.{filter_map}
use Rattle.std.specs.List.{AllByRecursion}
use Rattle.std.proofs.lemmas.Bool.{true≢false, false≢true, false_from_ne_true}
use Rattle.std.proofs.lemmas.List.Elements.{filter-append, filter_map-append}
use Rattle.std.proofs.lemmas.List.Concat.{flat_map-append}
use Rattle.sb_tenant.specs.declared.bound.Bound.{Bound}
use Rattle.sb_tenant.specs.declared.reply.Answer.{Answer}
use Rattle.sb_tenant.specs.Limits.{is_session}
use Rattle.sb_tenant.specs.State.{State}
use Rattle.sb_tenant.specs.Step.{step}
use Rattle.sb_tenant.specs.Trail.{after_abort}
use Rattle.sb_wire.specs.Lines.{Piece, line, too_long, newline, Addressed, addressed_of}
use Rattle.sb_wire.specs.ReplyText.{words, reply_lines}
use Rattle.sb_wire.specs.Output.{AreAnswers, IsAborted, IsAnswer, IsNotBegun, address, addressed_in, ended_lines, no_address, prefixed, reply_to_line, with_state}
use Rattle.sb_wire.specs.Apart.{MetNoWant, RunsApart, is_of, lines_alone, own_lines, own_of, reply_alone, state_alone, tenant_lines, with_address}
use Rattle.sb_wire.proofs.Addresses.{named-again}

-- ---- lists

all-parts : {X : Type 0} (P : X → Type 0) (xs ys : List X) → AllByRecursion P (xs ++ ys) → AllByRecursion P xs × AllByRecursion P ys
all-parts P [] ys h = (tt, h)
all-parts P (x ∷ xs) ys h = let rest = all-parts P xs ys h.1 in ((h.0, rest.0), rest.1)

ended-then : (xs ys : List (List ℕ)) → ended_lines (xs ++ ys) ≡ ended_lines xs ++ ended_lines ys
ended-then xs ys = flat_map-append (λ l. l ++ newline ∷ []) xs ys

other-way : (a b : ℕ) → (a == b) ≡ false → (b == a) ≡ false
other-way a b h = false_from_ne_true (b == a) (λ e. false≢true (sym h ∙ eq-eqb a b (sym (eqb-true b a e))))

-- ---- an addressed line

-- lines that answer it, as its tenant's and as another's
told-lines : (bytes : List ℕ) (a : Addressed) → addressed_of bytes ≡ Some a → (t : ℕ) (b : Bool) → (a.tenant == t) ≡ b → (lines : List (List ℕ))
    → tenant_lines t (with_address a lines) ≡ cond b (with_address a lines) []
told-lines bytes a named t true is [] = refl
told-lines bytes a named t false is [] = refl
told-lines bytes a named t true is (l ∷ lines) =
    let own : is_of t (addressed_of (words (address a ∷ l ∷ []))) ≡ true = ap (is_of t) (named-again bytes a named l) ∙ is in
    let more : tenant_lines t (with_address a lines) ≡ with_address a lines = told-lines bytes a named t true is lines in
    rw (own, more) refl
told-lines bytes a named t false is (l ∷ lines) =
    let other : is_of t (addressed_of (words (address a ∷ l ∷ []))) ≡ false = ap (is_of t) (named-again bytes a named l) ∙ is in
    let more : tenant_lines t (with_address a lines) ≡ [] = told-lines bytes a named t false is lines in
    rw (other, more) refl

-- what it asks
asked-line : (p : Piece) (a : Addressed) → addressed_in p ≡ Some a → (t : ℕ) (b : Bool) → (a.tenant == t) ≡ b → own_lines t (p ∷ []) ≡ cond b (a ∷ []) []
asked-line p a named t b is = ap (λ (o : Option Addressed). one (own_of t o)) named ∙ ap (λ (x : Bool). one (cond x (Some a) None)) is ∙ by b
  where
    one : Option Addressed → List Addressed
    one o = filter_map (λ (x : Option Addressed). x) (o ∷ [])

    by : (x : Bool) → one (cond x (Some a) None) ≡ cond x (a ∷ []) []
    by true = refl
    by false = refl

module _ (hosts : ℕ → Bool) (bound : Bound) where
  -- lines that answer these pieces tell each tenant what it would be told alone
  abbrev Apart : (ℕ → State) → List Piece → List (List ℕ) → (ℕ → State) → Type 0
  Apart before ps lines after =
      (t : ℕ) → IsTrue (hosts t) → MetNoWant t lines
      → (tenant_lines t lines ≡ lines_alone bound t (before t) (own_lines t ps)) × (after t ≡ state_alone bound t (before t) (own_lines t ps))

  -- ---- one after another

  lines-then : (t : ℕ) (state : State) (xs ys : List Addressed)
      → lines_alone bound t state (xs ++ ys) ≡ lines_alone bound t state xs ++ lines_alone bound t (state_alone bound t state xs) ys
  lines-then t state [] ys = refl
  lines-then t state (a ∷ xs) ys =
      let r = reply_alone bound t state a in
      ap (λ (l : List (List ℕ)). r.0 ++ l) (lines-then t r.1 xs ys) ∙ sym (append_assoc r.0 (lines_alone bound t r.1 xs) (lines_alone bound t (state_alone bound t r.1 xs) ys))

  state-then : (t : ℕ) (state : State) (xs ys : List Addressed) → state_alone bound t state (xs ++ ys) ≡ state_alone bound t (state_alone bound t state xs) ys
  state-then t state [] ys = refl
  state-then t state (a ∷ xs) ys = state-then t (reply_alone bound t state a).1 xs ys

  apart-then : (before mid after : ℕ → State) (p : Piece) (ps : List Piece) (lines more : List (List ℕ))
      → Apart before (p ∷ []) lines mid → Apart mid ps more after → Apart before (p ∷ ps) (lines ++ more) after
  apart-then before mid after p ps lines more first others t hosted none =
      let want = all-parts _ lines more none in
      let one = first t hosted want.0 in
      let next = others t hosted want.1 in
      let own = own_lines t (p ∷ []) in
      let asked : own_lines t (p ∷ ps) ≡ own ++ own_lines t ps = filter_map-append (λ (q : Piece). own_of t (addressed_in q)) (p ∷ []) ps in (
        filter-append (λ (l : List ℕ). is_of t (addressed_of l)) lines more
            ∙ (λ i. one.0 i ++ (next.0 ∙ ap (λ (u : State). lines_alone bound t u (own_lines t ps)) one.1) i)
            ∙ sym (ap (lines_alone bound t (before t)) asked ∙ lines-then t (before t) own (own_lines t ps)),
        next.1 ∙ ap (λ (u : State). state_alone bound t u (own_lines t ps)) one.1
            ∙ sym (ap (state_alone bound t (before t)) asked ∙ state-then t (before t) own (own_lines t ps)),
      )

  -- ---- one line

  -- one that names nobody
  apart-none : (before : ℕ → State) (p : Piece) (lines : List (List ℕ)) → addressed_in p ≡ None → ((t : ℕ) → tenant_lines t lines ≡ []) → Apart before (p ∷ []) lines before
  apart-none before p lines none unnamed t hosted served =
      let asked : own_lines t (p ∷ []) ≡ [] = ap (λ (o : Option Addressed). filter_map (λ (x : Option Addressed). own_of t x) (o ∷ [])) none in
      (unnamed t ∙ ap (lines_alone bound t (before t)) (sym asked), ap (state_alone bound t (before t)) (sym asked))

  -- one that names a tenant: that is told by its state, where it is hosted and met no want of memory, and no other state changes
  module _ (before after : ℕ → State) (p : Piece) (bytes : List ℕ) (a : Addressed) (piece : addressed_in p ≡ Some a) (named : addressed_of bytes ≡ Some a) (lines : List (List ℕ)) where
    apart-named : (IsTrue (hosts a.tenant) → MetNoWant a.tenant (with_address a lines) → reply_alone bound a.tenant (before a.tenant) a ≡ (with_address a lines, after a.tenant))
        → ((t : ℕ) → (a.tenant == t) ≡ false → after t ≡ before t) → Apart before (p ∷ []) (with_address a lines) after
    apart-named told others t hosted served = by (a.tenant == t) refl
      where
        by : (b : Bool) → (a.tenant == t) ≡ b
            → (tenant_lines t (with_address a lines) ≡ lines_alone bound t (before t) (own_lines t (p ∷ []))) × (after t ≡ state_alone bound t (before t) (own_lines t (p ∷ [])))
        by true is =
            let same : t ≡ a.tenant = sym (eqb-true a.tenant t is) in
            let own = subst (λ (u : ℕ). reply_alone bound u (before u) a ≡ (with_address a lines, after u)) (sym same)
            (told (subst (λ (u : ℕ). IsTrue (hosts u)) same hosted) (subst (λ (u : ℕ). MetNoWant u (with_address a lines)) same served)) in
            let asked = asked-line p a piece t true is in (
              told-lines bytes a named t true is lines ∙ sym (append-nil (with_address a lines)) ∙ ap (λ (r : List (List ℕ) × State). r.0 ++ []) (sym own)
                  ∙ ap (lines_alone bound t (before t)) (sym asked),
              ap (λ (r : List (List ℕ) × State). r.1) (sym own) ∙ ap (state_alone bound t (before t)) (sym asked),
            )
        by false is =
            let asked = asked-line p a piece t false is in (
              told-lines bytes a named t false is lines ∙ ap (lines_alone bound t (before t)) (sym asked),
              others t is ∙ ap (state_alone bound t (before t)) (sym asked),
            )

  with-other : (states : ℕ → State) (u : ℕ) (state : State) (t : ℕ) → (u == t) ≡ false → with_state states u state t ≡ states t
  with-other states u state t other = ap (λ (b : Bool). cond b state (states t)) (other-way u t other)

  with-own : (states : ℕ → State) (u : ℕ) (state : State) → with_state states u state u ≡ state
  with-own states u state = ap (λ (b : Bool). cond b state (states u)) (eq-eqb u u refl)

  -- what answers a line: its lines, and that it is apart
  abbrev Told : (ℕ → State) → Piece → List ℕ → (ℕ → State) → Type 0
  Told before p text after = (lines : List (List ℕ)) × (text ≡ ended_lines lines) × Apart before (p ∷ []) lines after

  told-as : (before : ℕ → State) (p : Piece) (r : List ℕ × (ℕ → State)) (text : List ℕ) (after : ℕ → State) → r ≡ (text, after) → Told before p r.0 r.1 → Told before p text after
  told-as before p r text after is told = subst (λ (x : List ℕ × (ℕ → State)). Told before p x.0 x.1) is told

  -- memory ran out
  told-short : (before : ℕ → State) (p : Piece) (bytes : List ℕ) (a : Addressed) (text : List ℕ) (after : ℕ → State) → addressed_in p ≡ Some a → addressed_of bytes ≡ Some a
      → IsAborted hosts bound before a text after ⊎ IsNotBegun hosts bound before a text after → Told before p text after
  told-short before p bytes a text after piece named (inl (is, changed)) = (
    with_address a (codes "no 91 NoMemory" ∷ []),
    is,
    subst (λ (s : ℕ → State). Apart before (p ∷ []) (with_address a (codes "no 91 NoMemory" ∷ [])) s) (sym changed)
        (apart-named before (with_state before a.tenant (after_abort (before a.tenant) a.session)) p bytes a piece named (codes "no 91 NoMemory" ∷ [])
        (λ hosted served. absurd ((served.0 a refl).0 refl)) (λ t other. with-other before a.tenant (after_abort (before a.tenant) a.session) t other)),
  )
  told-short before p bytes a text after piece named (inr (is, same)) = (
    with_address a (codes "no 92 NotBegun" ∷ []),
    is,
    subst (λ (s : ℕ → State). Apart before (p ∷ []) (with_address a (codes "no 92 NotBegun" ∷ [])) s) (sym same)
        (apart-named before before p bytes a piece named (codes "no 92 NotBegun" ∷ []) (λ hosted served. absurd ((served.0 a refl).1 refl)) (λ t other. refl)),
  )

  -- by whether the tenant is hosted, and the session is one
  told-line : (before : ℕ → State) (p : Piece) (bytes : List ℕ) (a : Addressed) → addressed_in p ≡ Some a → addressed_of bytes ≡ Some a
      → Told before p (reply_to_line hosts bound before a).0 (reply_to_line hosts bound before a).1
  told-line before p bytes a piece named = by (hosts a.tenant) (is_session a.session) refl refl
    where
      r : State × Answer
      r = step a.tenant bound (before a.tenant) a.session a.command

      reply_by : Bool → Bool → List ℕ × (ℕ → State)
      reply_by h b =
          elim h [
            | false ↦ (prefixed (address a) (codes "no 13 NoTenant" ∷ []), before)
            | true ↦ elim b [
              | false ↦ (prefixed (address a) (codes "no 14 NoSession" ∷ []), before)
              | true ↦ (prefixed (address a) (reply_lines r.1.reply), with_state before a.tenant r.0)
            ]
          ]

      alone_by : Bool → List (List ℕ) × State
      alone_by b = elim b [ false ↦ (with_address a (codes "no 14 NoSession" ∷ []), before a.tenant) | true ↦ (with_address a (reply_lines r.1.reply), r.0) ]

      by : (h b : Bool) → hosts a.tenant ≡ h → is_session a.session ≡ b → Told before p (reply_by h b).0 (reply_by h b).1
      by false b hosted is = (
        with_address a (codes "no 13 NoTenant" ∷ []),
        refl,
        apart-named before before p bytes a piece named (codes "no 13 NoTenant" ∷ []) (λ there served. absurd (true≢false (sym there ∙ hosted))) (λ t other. refl),
      )
      by true false hosted is = (
        with_address a (codes "no 14 NoSession" ∷ []),
        refl,
        apart-named before before p bytes a piece named (codes "no 14 NoSession" ∷ []) (λ there served. ap alone_by is) (λ t other. refl),
      )
      by true true hosted is = (
        with_address a (reply_lines r.1.reply),
        refl,
        apart-named before (with_state before a.tenant r.0) p bytes a piece named (reply_lines r.1.reply)
            (λ there served. ap alone_by is ∙ ap (λ (s : State). (with_address a (reply_lines r.1.reply), s)) (sym (with-own before a.tenant r.0)))
            (λ t other. with-other before a.tenant r.0 t other),
      )

  told-piece : (before : ℕ → State) (p : Piece) (text : List ℕ) (after : ℕ → State) → IsAnswer hosts bound before p text after → Told before p text after
  told-piece before too_long text after (inl is) =
      told-as before too_long (prefixed no_address (codes "no 11 TooLong" ∷ []), before) text after is
      (words (no_address ∷ codes "no 11 TooLong" ∷ []) ∷ [], refl, apart-none before too_long (words (no_address ∷ codes "no 11 TooLong" ∷ []) ∷ []) refl (λ t. refl))
  told-piece before too_long text after (inr (a, named, may, short)) = absurd (let e = named in cc)
  told-piece before (line bytes) text after (inr (a, named, may, short)) = told-short before (line bytes) bytes a text after named named short
  told-piece before (line bytes) text after (inl is) = by (addressed_of bytes) refl
    where
      reply_found : Option Addressed → List ℕ × (ℕ → State)
      reply_found o = elim o [ None ↦ (prefixed no_address (codes "no 12 BadLine" ∷ []), before) | Some a ↦ reply_to_line hosts bound before a ]

      by : (o : Option Addressed) → addressed_of bytes ≡ o → Told before (line bytes) text after
      by None none =
          told-as before (line bytes) (prefixed no_address (codes "no 12 BadLine" ∷ []), before) text after (ap reply_found (sym none) ∙ is)
          (words (no_address ∷ codes "no 12 BadLine" ∷ []) ∷ [], refl, apart-none before (line bytes) (words (no_address ∷ codes "no 12 BadLine" ∷ []) ∷ []) none (λ t. refl))
      by (Some a) named = told-as before (line bytes) (reply_to_line hosts bound before a) text after (ap reply_found (sym named) ∙ is) (told-line before (line bytes) bytes a named named)

  -- ---- all lines

  all-told : (before : ℕ → State) (ps : List Piece) (text : List ℕ) (after : ℕ → State) → AreAnswers hosts bound before ps text after
      → (lines : List (List ℕ)) × (text ≡ ended_lines lines) × Apart before ps lines after
  all-told before [] text after (none, same) = ([], none, λ t hosted served. (refl, ap (λ (s : ℕ → State). s t) same))
  all-told before (p ∷ ps) text after (first, rest, mid, is, own, others) =
      let one = told-piece before p first mid own in
      let more = all-told mid ps rest after others in (
        one.0 ++ more.0,
        is ∙ (λ i. one.1 i ++ more.1 i) ∙ sym (ended-then one.0 more.0),
        apart-then before mid after p ps one.0 more.0 one.2 more.2,
      )

  pub runs-apart : (before : ℕ → State) (ps : List Piece) (text : List ℕ) (after : ℕ → State) → AreAnswers hosts bound before ps text after → RunsApart hosts bound before ps text after
  runs-apart before ps text after answers = let told = all-told before ps text after answers in record { lines = told.0; whole = told.1; alone = told.2 }
