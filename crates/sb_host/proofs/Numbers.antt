-- An answer has no number exactly where it says that the trail is full.
use Rattle.std.proofs.Common.{◌≡◌, ◌∙◌, ap, sym, subst, ℕ, Bool, true, false, List, Ok}
use Rattle.std.proofs.lemmas.Option.{same_Some}
use Rattle.sb_tenant.specs.declared.bound.Bound.{Bound}
use Rattle.sb_tenant.specs.declared.reply.Answer.{Answer}
use Rattle.sb_tenant.specs.Limits.{is_session}
use Rattle.sb_tenant.specs.TrailLaws.{AnswersAreNumbered}
use Rattle.sb_cell.specs.Tenants.{AnswersBy, Cell, hosts, trails}
use Rattle.sb_desk.specs.Desks.{Enters, in_transaction}
use Rattle.sb_desk.specs.Receipts.{Receipts, after, prepared}
use Rattle.sb_desk.specs.Calls.{AnswersOnce, Called, IsBehind, IsNumbered, Session, after_call, shown}

module _ (law : (tenant : ℕ) (bound : Bound) → AnswersAreNumbered tenant bound) where
  by_event : (hosted is_one : Bool) (c c' : Cell) (t s : ℕ) (line : List ℕ) (a : Answer) → AnswersBy hosted is_one c t s line (Ok a) c' → IsNumbered a
  by_event false is_one c c' t s line a h = absurd (let e = h.0 in cc)
  by_event true false c c' t s line a h = absurd (let e = h.0 in cc)
  by_event true true c c' t s line a h = law t c.bound (trails c t) (trails c' t) s line a h.0

  pub called : (c : Cell) (r : Receipts) (c' : Cell) (r' : Receipts) → Enters c r c' r' → Called r r'
  called c r c' r' h =
      let shown : r'.has_transaction ≡ in_transaction c' r.tenant r.session = ap (λ (x : Receipts). x.has_transaction) h.6 in
      let told : r' ≡ after r h.0 h.1 r'.has_transaction = h.6 ∙ ap (after r h.0 h.1) (sym shown) in
      (h.0, h.1, h.2, h.3, by_event (hosts c r.tenant) (is_session r.session) c c' r.tenant r.session h.0 h.1 h.5, told, (c, c', h.5, sym shown))

-- ---- a session

-- what a line that was made ready is answered is an answer to it
ready_answered : (q r' : Receipts) (line : List ℕ) → Called (prepared q line) r' → AnswersOnce (shown q) line (shown r')
ready_answered q r' line (ready, answer, going, is_ready, numbered, after_is, behind) =
    let same : line ≡ ready = same_Some line ready is_ready in (
      answer,
      going,
      numbered,
      ap shown after_is ∙ (λ i. after_call (shown q) (sym same i) answer r'.has_transaction),
      subst (λ (l : List ℕ). IsBehind q.tenant q.session l answer r'.has_transaction) (sym same) behind,
    )

pub answered_once : (old : Session) (q r r' : Receipts) (line : List ℕ) → old ≡ shown q → r ≡ prepared q line → Called r r' → AnswersOnce old line (shown r')
answered_once old q r r' line view is h =
    subst (λ (s : Session). AnswersOnce s line (shown r')) (sym view) (ready_answered q r' line (subst (λ (x : Receipts). Called x r') is h))
