-- What closed sessions leave, gathered by session.
use Rattle.std.proofs.Common.{◌≡◌, ℕ, ◌+◌, ◌<◌, ◌≤◌, ◌==◌, ◌&&◌, Bool, true, false, cond, List, [], ◌∷◌, ◌++◌, Option, Some, None, refl, sym, ap, ◌∙◌, subst, append_assoc, append-nil, eq-eqb, eqb-true, arith, Vec}
use Rattle.std.specs.Global.{Global}
use Rattle.std.proofs.lemmas.Bool.{and_parts}
use Rattle.sb_desk.specs.declared.receipts.Receipt.{Receipt}
use Rattle.sb_desk.specs.Receipts.{newcomer}
use Rattle.sb_desk.specs.Calls.{Calls, Session, shown}
use Rattle.sb_host.specs.Finish.{gathered, receipts_in}
use Rattle.sb_desk.specs.declared.stub.Stub.{Stub}
use Rattle.sb_desk.specs.declared.desk.CallError.{CallError}
use Rattle.sb_tenant.specs.declared.reply.Answer.{Answer}
use Rattle.std.specs.Prelude.{Result, Ok, Err}
use Rattle.sb_replay.specs.Lists.{AllCut, AllFrom}
use Rattle.sb_replay.specs.Sessions.{Exchange, Plays, commands_in}
use Rattle.sb_replay.specs.Sheets.{Sheet, lines_of}
use Rattle.sb_replay.specs.Parts.{Attended, AttendedAt, Closes, ClosesBy, session_at, tenant_at}
use Rattle.sb_replay.specs.declared.part.SessionPart.{SessionPart}
use Rattle.sb_replay.proofs.Playing.{Finished, Reaches}

-- ---- the receipts of one stub

own_receipts : (t s : ℕ) (x : Stub) → x.tenant ≡ t → x.session ≡ s → receipts_in t s x ≡ x.receipts.items
own_receipts t s x e f = rw (eq-eqb x.tenant t e, eq-eqb x.session s f) refl

no_receipts : (t s : ℕ) (x : Stub) → ((x.tenant ≡ t) × (x.session ≡ s) → ⊥) → receipts_in t s x ≡ []
no_receipts t s x h = by ((x.tenant == t) && (x.session == s)) (λ e. let p = and_parts (x.tenant == t) (x.session == s) e in h (eqb-true _ _ p.0, eqb-true _ _ p.1))
  where
    by : (b : Bool) → (b ≡ true → ⊥) → cond b x.receipts.items [] ≡ []
    by true k = absurd (k refl)
    by false k = refl

gathered-append : (t s : ℕ) (xs ys : List Stub) → gathered t s (xs ++ ys) ≡ gathered t s xs ++ gathered t s ys
gathered-append t s [] ys = refl
gathered-append t s (x ∷ xs) ys =
    ap (λ (l : List Receipt). receipts_in t s x ++ l) (gathered-append t s xs ys) ∙ sym (append_assoc (receipts_in t s x) (gathered t s xs) (gathered t s ys))

-- ---- a session stays that of its numbers

calls_keep : (old new : Session) (line : List ℕ) (given : Result Answer CallError) → Calls old line given new → (new.tenant ≡ old.tenant) × (new.session ≡ old.session)
calls_keep old new line (Ok answer) calls = (ap (λ (s : Session). s.tenant) calls.2, ap (λ (s : Session). s.session) calls.2)
calls_keep old new line (Err e) calls = (ap (λ (s : Session). s.tenant) calls.1, ap (λ (s : Session). s.session) calls.1)

plays_keep : (old new : Session) (es : List Exchange) → Plays old es new → (new.tenant ≡ old.tenant) × (new.session ≡ old.session)
plays_keep old new [] same = (ap (λ (s : Session). s.tenant) same, ap (λ (s : Session). s.session) same)
plays_keep old new (e ∷ es) (mid, first, others) =
    let here = calls_keep old mid e.command e.given first in
    let on = plays_keep mid new es others in
    (on.0 ∙ here.0, on.1 ∙ here.1)

-- ---- one part's stub, if it has one

-- no session but its own has receipts there
elsewhere : (t s : ℕ) (commands : List (List ℕ)) (session : Option Session) (sheet : Sheet) (own : List Stub)
    → Reaches t s commands session sheet → ClosesBy session own → (u r : ℕ) → ((t ≡ u) × (s ≡ r) → ⊥) → gathered u r own ≡ []
elsewhere t s commands None sheet own reach none u r other = ap (gathered u r) none
elsewhere t s commands (Some last) sheet own reach (stub, one, leaves, order) u r other =
    let p = reach.1 in
    let kept = plays_keep (shown (newcomer t s p.opening)) last p.exchanges p.plays in
    let away : receipts_in u r stub ≡ [] = no_receipts u r stub (λ at. other (sym (leaves.0 ∙ kept.0) ∙ at.0, sym (leaves.1 ∙ kept.1) ∙ at.1)) in
    ap (gathered u r) one ∙ append-nil (receipts_in u r stub) ∙ away

attended : (t s : ℕ) (commands : List (List ℕ)) (session : Option Session) (sheet : Sheet) (own : List Stub)
    → Reaches t s commands session sheet → sheet.left ≡ [] → ClosesBy session own → Attended t s commands (gathered t s own) sheet
attended t s commands None sheet own (empty, is) left none = record {
  exchanges = [];
  commands_are = empty;
  tenant_is = ap (λ (x : Sheet). x.tenant) is;
  number_is = ap (λ (x : Sheet). x.number) is;
  text_is = ap (λ (x : Sheet). x.text) is;
  full_is = ap (λ (x : Sheet). x.is_full) is;
  unopened = λ _. ap (gathered t s) none;
  opened = λ some. absurd (some empty);
}
attended t s commands (Some last) sheet own (some, p) left (stub, one, leaves, order) =
    let kept = plays_keep (shown (newcomer t s p.opening)) last p.exchanges p.plays in
    let receipts : receipts_in t s stub ≡ stub.receipts.items = own_receipts t s stub (leaves.0 ∙ kept.0) (leaves.1 ∙ kept.1) in
    record {
      exchanges = p.exchanges;
      commands_are = p.commands_are ∙ ap (λ (l : List (List ℕ)). commands_in p.exchanges ++ l) left ∙ append-nil (commands_in p.exchanges);
      tenant_is = p.tenant_is;
      number_is = p.number_is;
      text_is = p.text_is;
      full_is = p.full_is;
      unopened = λ none. absurd (some none);
      opened = λ _. (
        stub,
        record { opening = p.opening; last = last; plays = p.plays; stub_is = leaves },
        order,
        sym (ap (gathered t s) one ∙ append-nil (receipts_in t s stub) ∙ receipts),
      );
    }

-- ---- all parts

apart : (j k : ℕ) → (j ≡ k → ⊥) → (tenant_at k ≡ tenant_at j) × (session_at k ≡ session_at j) → ⊥
apart j k other same = other (omega (arith, same.0, same.1))

module _ {N : Type 0} where
  -- each session was attended, and one before these has no receipts in their stubs; `all` are the receipts of each rank
  attended_from : (all : ℕ → List Receipt) (k : ℕ) (rows : List (Vec (Vec ℕ Global) Global)) (parts : List (SessionPart N)) (sheets : List Sheet) (stubs : List Stub)
      → ((j : ℕ) → k ≤ j → all j ≡ gathered (tenant_at j) (session_at j) stubs)
      → AllFrom Finished k rows parts → AllCut Closes parts sheets stubs
      → AllFrom (AttendedAt all) k rows sheets × ((j : ℕ) → j < k → gathered (tenant_at j) (session_at j) stubs ≡ [])
  attended_from all k [] [] [] stubs are finished none = (tt, λ j below. ap (gathered (tenant_at j) (session_at j)) none)
  attended_from all k [] [] (sheet ∷ sheets) stubs are finished closes = absurd closes
  attended_from all k [] (part ∷ parts) sheets stubs are finished closes = absurd finished
  attended_from all k (row ∷ rows) [] sheets stubs are finished closes = absurd finished
  attended_from all k (row ∷ rows) (part ∷ parts) [] stubs are finished closes = absurd closes
  attended_from all k (row ∷ rows) (part ∷ parts) (sheet ∷ sheets) stubs are finished (own, rest, cut, (is, close), closes) =
      let t = tenant_at k in
      let s = session_at k in
      let past : (j : ℕ) → (j ≡ k → ⊥) → gathered (tenant_at j) (session_at j) stubs ≡ gathered (tenant_at j) (session_at j) rest =
      λ j other.
      let u = tenant_at j in
      let r = session_at j in
      let away : gathered u r own ≡ [] = elsewhere t s (lines_of row.items) part.session part.sheet own finished.0.0 close u r (apart j k other) in
      ap (gathered u r) cut ∙ gathered-append u r own rest ∙ ap (λ (l : List Receipt). l ++ gathered u r rest) away in
      let others : AllFrom (AttendedAt all) (k + 1) rows sheets × ((j : ℕ) → j < k + 1 → gathered (tenant_at j) (session_at j) rest ≡ []) =
      attended_from all (k + 1) rows parts sheets rest (λ j above. are j (omega (arith, above)) ∙ past j (λ e. omega (arith, e, above))) finished.1 closes in
      let behind : gathered t s rest ≡ [] = others.1 k (omega arith) in
      let mine : all k ≡ gathered t s own =
      are k (omega arith) ∙ ap (gathered t s) cut ∙ gathered-append t s own rest ∙ ap (λ (l : List Receipt). gathered t s own ++ l) behind ∙ append-nil (gathered t s own) in
      let done : Attended t s (lines_of row.items) (gathered t s own) part.sheet = attended t s (lines_of row.items) part.session part.sheet own finished.0.0 finished.0.1 close in (
        (subst (λ (x : Sheet). Attended t s (lines_of row.items) (all k) x) (sym is) (subst (λ (l : List Receipt). Attended t s (lines_of row.items) l part.sheet) (sym mine) done), others.0),
        λ j below. past j (λ e. omega (arith, e, below)) ∙ others.1 j (omega (arith, below)),
      )

  -- from the first one on
  pub all_attended : (all : ℕ → List Receipt) (rows : List (Vec (Vec ℕ Global) Global)) (parts : List (SessionPart N)) (sheets : List Sheet) (stubs : List Stub)
      → ((j : ℕ) → all j ≡ gathered (tenant_at j) (session_at j) stubs)
      → AllFrom Finished 0 rows parts → AllCut Closes parts sheets stubs → AllFrom (AttendedAt all) 0 rows sheets
  all_attended all rows parts sheets stubs are finished closes = (attended_from all 0 rows parts sheets stubs (λ j above. are j) finished closes).0
