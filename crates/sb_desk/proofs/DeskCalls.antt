-- A call of one session keeps its desk, and says whether the session is open afterwards.
use Rattle.std.proofs.Common.{◌≡◌, ℕ, ◌+◌, ◌*◌, ◌/◌, ◌%◌, ◌<◌, ◌≤◌, Bool, true, false, not, ◌&&◌, List, [], ◌∷◌, length, get_or, set, Option, Some, None, Result, Ok, Err, refl, ap, sym, ◌∙◌, subst, arith, length-append, lt-ltb, inl, inr, IsTrue}
use Rattle.std.specs.Prelude.{codes}
use Rattle.std.proofs.lemmas.List.{set-get_or}
use Rattle.sb_tenant.specs.declared.bound.Bound.{Bound}
use Rattle.sb_syntax.specs.Text.{command_of}
use Rattle.sb_syntax.specs.Tree.{Command, open_session, end_session}
use Rattle.sb_tenant.specs.declared.reply.Answer.{Answer}
use Rattle.sb_tenant.specs.declared.reply.Entry.{Entry}
use Rattle.sb_tenant.specs.declared.reply.Reply.TheVariants as told
use Rattle.sb_tenant.specs.State.{session_at, is_open}
use Rattle.sb_tenant.specs.Trail.{Extends, Steps, entry_of, is_no_memory, state_of}
use Rattle.sb_tenant.specs.Closing.{closes, is_end}
use Rattle.sb_tenant.specs.TrailLaws.{EndsClose, OthersStay, OwnOpens, open_by}
use Rattle.sb_cell.specs.declared.StepError.{StepError}
use Rattle.sb_cell.specs.declared.StepError.TheVariants.{NoTenant, NoSession, NotBegun}
use Rattle.sb_cell.specs.Events.{IsTurn}
use Rattle.sb_cell.specs.Hosting.{entry_count}
use Rattle.sb_cell.specs.Tenants.{AnswersBy, AnswersEvent, Cell, hosts, trails, states}
use Rattle.sb_desk.specs.Kept.{IsDesk, Place, SeatAt}
use Rattle.sb_desk.specs.Desks.{open_in}
use Rattle.sb_desk.specs.Receipts.{Receipts}
use Rattle.sb_desk.specs.Seats.{IsSeat, SessionSeat, number_of}
use Rattle.sb_desk.proofs.CellSteps.{beside, entries_by}
use Rattle.sb_desk.proofs.DeskSteps.{hosted_by, kept}
use Rattle.sb_tenant.specs.Limits.{entry_limit}

-- ---- the two lines that open and close

open_line : command_of (codes "open") ≡ Some open_session
unfolding command_of
open_line = refl

end_line : command_of (codes "end") ≡ Some end_session
unfolding command_of
end_line = refl

pub end_closes : closes (codes "end") told.Ok ≡ true
end_closes = ap (λ (c : Option Command). is_end c && true) end_line

-- ---- the session of the receipts

pub own : (cells : ℕ) {first t : ℕ} {r old : Receipts} → t ≡ r.tenant → r ≡ old → old.tenant % cells ≡ first → t % cells ≡ first
own cells is same mine = ap (λ (n : ℕ). n % cells) (is ∙ ap (λ (r : Receipts). r.tenant) same) ∙ mine

-- it is open
pub opened : {inside middle cell : Cell} {t s : ℕ} {r old : Receipts} → inside ≡ middle → t ≡ r.tenant → s ≡ r.session → (middle ≡ cell) × (r ≡ old) → open_in cell old.tenant old.session ≡ true → open_in inside t s ≡ true
opened view tenant session same up =
    let at = view ∙ same.0 in
    let t_is = tenant ∙ ap (λ (r : Receipts). r.tenant) same.1 in
    let s_is = session ∙ ap (λ (r : Receipts). r.session) same.1 in
    (λ i. open_in (at i) (t_is i) (s_is i)) ∙ up

-- ---- what a call does to the trail

-- a line of a hosted tenant's session is a turn of that tenant
turn : (c c' : Cell) (t s : ℕ) (line : List ℕ) (given : Result Answer StepError) → IsTrue (hosts c t) → s < 8 → AnswersEvent c t s line given c' → AnswersBy true true c t s line given c'
turn c c' t s line given hosted below did = subst (λ (b : Bool × Bool). AnswersBy b.0 b.1 c t s line given c') (λ i. (hosted i, lt-ltb s 8 below i)) did

-- an answer with a number is one entry more
extends : (t : ℕ) (bound : Bound) (s : ℕ) (line : List ℕ) (before after : List Entry) (a : Answer) (n : ℕ) → Steps t bound before s line a after → a.number ≡ Some n → Extends t bound before s line a after
extends t bound s line before after a n (inl longer) has = longer
extends t bound s line before after a n (inr full) has = absurd (apart n (sym (ap (λ (x : Answer). x.number) full.1) ∙ has))
  where
    apart : (n : ℕ) → None ≡ Some n → ⊥
    apart n e = cc

-- one without a number is none
stays_full : (t : ℕ) (bound : Bound) (s : ℕ) (line : List ℕ) (before after : List Entry) (a : Answer) → Steps t bound before s line a after → a.number ≡ None → after ≡ before
stays_full t bound s line before after a (inl longer) has = absurd (apart (length after) (sym has ∙ longer.1))
  where
    apart : (n : ℕ) → None ≡ Some n → ⊥
    apart n e = cc
stays_full t bound s line before after a (inr full) has = full.2

-- a step that isn't begun is none, either
stays_unbegun : (bound : Bound) (t : ℕ) (before after : List Entry) (event : ℕ × List ℕ) (e : StepError) → IsTurn bound t before event (Err e) after → after ≡ before
stays_unbegun bound t before after event NoTenant h = absurd h
stays_unbegun bound t before after event NoSession h = absurd h
stays_unbegun bound t before after event NotBegun h = h.0

-- ---- calls of a desk

module _ (p : Place) (c c' : Cell) (parts : ℕ) (seats : List (Option SessionSeat)) (t s : ℕ) (line : List ℕ) (d : IsDesk p c parts seats) (some : 0 < p.cells) (mine : t % p.cells ≡ p.first) (there : t < p.tenants) (below : s < 8) where
  hosted : IsTrue (hosts c t)
  hosted = hosted_by p c parts seats t d mine there

  smaller : c.first < c.stride
  smaller = let first = d.first in let stride = d.stride in omega (arith, first, stride, mine, some)

  abbrev at : ℕ
  at = 8 * (t / p.cells) + s

  abbrev seat : Option SessionSeat
  seat = get_or seats (8 * (t / p.cells) + s) None

  -- where the trail stays, the desk does
  unmoved : (given : Result Answer StepError) → AnswersEvent c t s line given c' → trails c' t ≡ trails c t → IsDesk p c' parts seats
  unmoved given did still =
      let turned = turn c c' t s line given hosted below did in
      let as_was : (x : ℕ) → open_in c' t x ≡ open_in c t x = λ x. λ i. is_open (session_at (state_of t (turned.2.2 i) (still i)) x) in
      subst (λ (l : List (Option SessionSeat)). IsDesk p c' parts l) (set-get_or seats at None)
      (kept p c c' parts parts seats t s seat d smaller hosted below turned.1 turned.2 (ap (λ (l : List Entry). parts + length l) still) (λ x b apart. as_was x)
      (subst (λ (b : Bool). SeatAt p.table (number_of p.cells t s) b seat) (sym (as_was s)) (d.seated t s hosted below)))

  pub unbegun : (e : StepError) → AnswersEvent c t s line (Err e) c' → IsDesk p c' parts seats
  unbegun e did = unmoved (Err e) did (stays_unbegun c.bound t (trails c t) (trails c' t) (s, line) e (turn c c' t s line (Err e) hosted below did).0)

  pub full : (a : Answer) → AnswersEvent c t s line (Ok a) c' → a.number ≡ None → IsDesk p c' parts seats
  full a did none = unmoved (Ok a) did (stays_full t c.bound s line (trails c t) (trails c' t) a (turn c c' t s line (Ok a) hosted below did).0 none)

  -- ---- one entry

  module _ (a : Answer) (n : ℕ) (did : AnswersEvent c t s line (Ok a) c') (has : a.number ≡ Some n) where
    turned : AnswersBy true true c t s line (Ok a) c'
    turned = turn c c' t s line (Ok a) hosted below did

    longer : Extends t c.bound (trails c t) s line a (trails c' t)
    longer = extends t c.bound s line (trails c t) (trails c' t) a n turned.0 has

    grown : length (trails c' t) ≡ length (trails c t) + 1
    grown = ap length longer.0 ∙ length-append (trails c t) (entry_of s line a.reply ∷ [])

    -- the share has a part for it, and one more
    pub enough : entry_count c'.tenants ≤ 256 * entry_limit → 1 < parts
    enough few =
        let all = entries_by c c' t smaller hosted turned.1 turned.2 in
        let more = grown in
        let whole = d.whole in
        omega (arith, all, more, whole, few)

    -- with the seat where it belongs
    reseated : ((tenant : ℕ) (bound : Bound) → OthersStay tenant bound) → (o : Option SessionSeat) (left : ℕ) → left + 1 ≡ parts → SeatAt p.table (number_of p.cells t s) (open_in c' t s) o → IsDesk p c' left (set seats at o)
    reseated others o left part fits =
        let more = grown in
        let grows : left + length (trails c' t) ≡ parts + length (trails c t) = omega (arith, more, part) in
        kept p c c' parts left seats t s o d smaller hosted below turned.1 turned.2 grows
        (λ x b apart. (λ i. is_open (session_at (state_of t (turned.2.2 i) (trails c' t)) x)) ∙ beside others t c.bound (trails c t) (trails c' t) (entry_of s line a.reply) x longer.0 apart)
        fits

    -- an open session that stays open has its seat with itself
    pub still_open : ((tenant : ℕ) (bound : Bound) → OthersStay tenant bound) → (left : ℕ) → left + 1 ≡ parts → open_in c t s ≡ true → open_in c' t s ≡ true → IsDesk p c' left seats
    still_open others left part before after =
        subst (λ (l : List (Option SessionSeat)). IsDesk p c' left l) (set-get_or seats at None)
        (reseated others seat left part (subst (λ (b : Bool). SeatAt p.table (number_of p.cells t s) b seat) (before ∙ sym after) (d.seated t s hosted below)))

    bound_is : open_in c' t s ≡ is_open (session_at (state_of t c.bound (trails c' t)) s)
    bound_is = λ i. is_open (session_at (state_of t (turned.2.2 i) (trails c' t)) s)

    -- a session that was open is closed by its `end` alone
    pub closed_by : ((tenant : ℕ) (bound : Bound) → EndsClose tenant bound) → open_in c t s ≡ true → open_in c' t s ≡ not (closes line a.reply)
    closed_by ends up = bound_is ∙ ends t c.bound (states c t) (state_of t c.bound (trails c' t)) (entry_of s line a.reply) longer.2 up

    -- with `open` the session has its seat
    pub admitted : ((tenant : ℕ) (bound : Bound) → OthersStay tenant bound) → ((tenant : ℕ) (bound : Bound) → OwnOpens tenant bound) → line ≡ codes "open" → a.reply ≡ told.Ok → (k : ℕ) → k ≡ at → (o : Option SessionSeat) → o ≡ None → (left : ℕ) → left + 1 ≡ parts → IsDesk p c' left (set seats k o)
    admitted others own is ok k place o none left part =
        let was : Bool = open_in c t s in
        let up : open_in c' t s ≡ true = bound_is
        ∙ own t c.bound (states c t) (state_of t c.bound (trails c' t)) (entry_of s line a.reply) longer.2
        ∙ (λ i. elim (is_no_memory (ok i)) [ true ↦ was | false ↦ open_by (command_of (is i)) was ])
        ∙ ap (λ (k : Option Command). open_by k was) open_line in
        let out : SeatAt p.table (number_of p.cells t s) (open_in c' t s) o = subst (λ (x : Bool × Option SessionSeat). SeatAt p.table (number_of p.cells t s) x.0 x.1) (λ i. (sym up i, sym none i)) tt in
        subst (λ (x : ℕ). IsDesk p c' left (set seats x o)) (sym place) (reseated others o left part out)

    -- the seat of a session that is closed is back at its place
    pub given_back : ((tenant : ℕ) (bound : Bound) → OthersStay tenant bound) → open_in c' t s ≡ false → (k : ℕ) → k ≡ at → (seat : SessionSeat) → IsSeat p.table (number_of p.cells t s) seat → (left : ℕ) → left + 1 ≡ parts → IsDesk p c' left (set seats k (Some seat))
    given_back others shut k place seat of left part =
        subst (λ (x : ℕ). IsDesk p c' left (set seats x (Some seat))) (sym place)
        (reseated others (Some seat) left part (subst (λ (b : Bool). SeatAt p.table (number_of p.cells t s) b (Some seat)) (sym shut) of))
