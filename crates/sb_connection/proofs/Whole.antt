-- The first line, and the connection as a whole.
use Rattle.std.proofs.Common.{◌≡◌, ◌∙◌, sym, ap, subst, refl, inl, inr, ℕ, Bool, true, false, ◌||◌, List, [], ◌∷◌, ◌++◌, append_assoc, append-nil, map, Option, Some, None}
use Rattle.std.specs.Prelude.{IfSome, flat_map, option_map}
use Rattle.std.proofs.lemmas.Bool.{false≢true}
use Rattle.std.proofs.lemmas.Grind.{flat_map-append}
use Rattle.std.proofs.lemmas.List.{append_cancel_left, map-append}
use Rattle.std.proofs.lemmas.List.Folds.{list_any-append}
use Rattle.std.proofs.Math.Bool.{or-false}
use Rattle.std.proofs.lemmas.Option.{same_Some}
use Rattle.sb_wire.specs.Lines.{Piece, line, too_long}
use Rattle.sb_wire.specs.Output.{ended_lines}
use Rattle.sb_wire.specs.Responses.{AreAnswered}
use Rattle.sb_wire.specs.Seen.{refusal_line}
use Rattle.sb_wire.specs.declared.refusal.WireRefusal.TheVariants as wire
use Rattle.sb_desk.specs.declared.receipts.Receipt.{Receipt}
use Rattle.sb_connection.specs.Callers.{Caller, LeavesBy, LeavesList, Life, Stay, calls_of, opening_receipt}
use Rattle.sb_connection.specs.ProtocolState.{AreSaid, AreTold, LeavesBehind}
use Rattle.sb_desk.specs.declared.stub.Stub.{Stub}
use Rattle.sb_connection.specs.Conversation.{Hosted, IsAdmitted, Serves, Talks, TurnsAway, receipts_in, TurnsAwayFrom, TurnsAwayLine, TurnsAwayVisitor, KeyHandshake, attach_lines, named_by, named_in, named_of, tenant_at, visitor_in, visitor_of, welcome}
use Rattle.sb_connection.specs.declared.first_line.SessionName.{SessionName}
use Rattle.sb_connection.specs.Exchanges.{AreCalls, AreReceipts, AreVolumes, Exchange, IsClosed, closing_receipts, ends, has_ended, line_in, receipts_of, said_text, transacts_behind, transacts_from}
use Rattle.sb_connection.specs.Policies.{Admits}
use Rattle.sb_connection.specs.Responses.{Greets, GreetsBy, GreetsLine, GreetsVisitor, LeavesSome, Opens, Responds, State, is_over, life_in, over, stays_in, talk_of, waits_in}
use Rattle.sb_connection.proofs.Closing.{left_receipts}
use Rattle.sb_connection.proofs.Talks.{MovesBy, by_cases, calls}
use Rattle.sb_connection.proofs.Volumes.{all_said}

-- ---- exchanges behind others

-- what ends the session ends it in one of the two parts
ended_append : (a b : List Exchange) → has_ended (a ++ b) ≡ (has_ended a || has_ended b)
ended_append a b = list_any-append ends a b

calls_append : (a b : List Exchange) → AreCalls a → (has_ended a ≡ true → b ≡ []) → AreCalls b → AreCalls (a ++ b)
calls_append [] b first none others = others
calls_append (e ∷ a) b (call, last, first) none others = (
  call,
  λ ended. ap (λ (l : List Exchange). l ++ b) (last ended) ∙ none (ap (λ (x : Bool). x || has_ended a) ended),
  calls_append a b first (λ ended. none (by_cases (ends e) (λ is. ap (λ (x : Bool). x || has_ended a) is) (λ is. ap (λ (x : Bool). x || has_ended a) is ∙ ended))) others,
)

pub transacts_append : (was : Bool) (a b : List Exchange) → transacts_from was (a ++ b) ≡ transacts_from (transacts_from was a) b
transacts_append was [] b = refl
transacts_append was (e ∷ a) b = transacts_append (transacts_behind was e) a b

module _ (admits : Admits) (hosted : Hosted) where
  -- ---- the first line

  turned_by : (named : Option SessionName) (text : List ℕ) (away : Bool) → GreetsBy hosted named text None away → (away ≡ true) × ((said : List (List ℕ)) × TurnsAwayFrom hosted named said × (text ≡ ended_lines said))
  turned_by None text away (none, is_away, is) = (is_away, (refusal_line wire.BadLine ∷ [], refl, is))
  turned_by (Some n) text away (is_away, e, attached, is) = (is_away, (attach_lines e, (e, attached, refl), is))

  turned_visitor : (handshake : Option KeyHandshake) (text : List ℕ) (away : Bool) → GreetsVisitor admits hosted handshake text None away
      → (away ≡ true) × ((said : List (List ℕ)) × TurnsAwayVisitor hosted handshake said × (text ≡ ended_lines said))
  turned_visitor None text away (none, is_away, is) = (is_away, (refusal_line wire.BadKey ∷ [], refl, is))
  turned_visitor (Some v) text away (inl (none, is_away, is)) = (is_away, (refusal_line wire.BadKey ∷ [], inl refl, is))
  turned_visitor (Some v) text away (inr (admitted, greets)) =
      let t = turned_by (Some v.named) text away greets in
      let said = t.1 in (t.0, (said.0, inr said.1, said.2))

  turned_line : (keyed : Bool) (bytes text : List ℕ) (away : Bool) → GreetsLine admits keyed hosted bytes text None away → (away ≡ true) × ((said : List (List ℕ)) × TurnsAwayLine keyed hosted bytes said × (text ≡ ended_lines said))
  turned_line false bytes text away greets = turned_by (named_of bytes) text away greets
  turned_line true bytes text away greets = turned_visitor (visitor_of bytes) text away greets

  pub turned : (p : Piece) (text : List ℕ) (away : Bool) → Greets admits hosted p text None away → (away ≡ true) × ((said : List (List ℕ)) × TurnsAway hosted p said × (text ≡ ended_lines said))
  turned too_long text away (none, is_away, is) = (is_away, (refusal_line wire.TooLong ∷ [], refl, is))
  turned (line bytes) text away greets = turned_line hosted.keyed bytes text away greets

  -- the session that was opened
  abbrev pub OpensNamed : Option SessionName → List ℕ → Life → Type 0
  OpensNamed named text s = (n : SessionName) × (named ≡ Some n) × Opens hosted.tenants (tenant_at hosted n.tenant) n.session s × (text ≡ welcome)

  opened_by : (named : Option SessionName) (text : List ℕ) (s : Life) (away : Bool) → GreetsBy hosted named text (Some s) away → OpensNamed named text s
  opened_by None text s away (none, is_away, is) = absurd cc
  opened_by (Some n) text s away (opens, is) = (n, refl, opens, is)

  opened_visitor : (handshake : Option KeyHandshake) (text : List ℕ) (s : Life) (away : Bool) → GreetsVisitor admits hosted handshake text (Some s) away → OpensNamed (option_map (λ (v : KeyHandshake). v.named) handshake) text s
  opened_visitor None text s away (none, is_away, is) = absurd cc
  opened_visitor (Some v) text s away (inl (none, is_away, is)) = absurd cc
  opened_visitor (Some v) text s away (inr (admitted, greets)) = opened_by (Some v.named) text s away greets

  opened_line : (keyed : Bool) (bytes text : List ℕ) (s : Life) (away : Bool) → GreetsLine admits keyed hosted bytes text (Some s) away → OpensNamed (named_in keyed bytes) text s
  opened_line false bytes text s away greets = opened_by (named_of bytes) text s away greets
  opened_line true bytes text s away greets = opened_visitor (visitor_of bytes) text s away greets

  pub opened : (p : Piece) (text : List ℕ) (s : Life) (away : Bool) → Greets admits hosted p text (Some s) away → OpensNamed (named_by hosted.keyed p) text s
  opened too_long text s away (none, is_away, is) = absurd cc
  opened (line bytes) text s away greets = opened_line hosted.keyed bytes text s away greets

  -- with keys, only to whom the key admits
  admitted_visitor : (handshake : Option KeyHandshake) (text : List ℕ) (s : Life) (away : Bool) → GreetsVisitor admits hosted handshake text (Some s) away → (v : KeyHandshake) × (handshake ≡ Some v) × admits v.named.tenant v.key
  admitted_visitor None text s away (none, is_away, is) = absurd cc
  admitted_visitor (Some v) text s away (inl (none, is_away, is)) = absurd cc
  admitted_visitor (Some v) text s away (inr (admitted, greets)) = (v, refl, admitted)

  pub admitted : (p : Piece) (text : List ℕ) (s : Life) (away : Bool) → hosted.keyed ≡ true → Greets admits hosted p text (Some s) away → (v : KeyHandshake) × (visitor_in p ≡ Some v) × admits v.named.tenant v.key
  admitted too_long text s away keyed (none, is_away, is) = absurd cc
  admitted (line bytes) text s away keyed greets =
      admitted_visitor (visitor_of bytes) text s away (subst (λ (k : Bool). GreetsLine admits k hosted bytes text (Some s) away) keyed greets)

  -- ---- the lines behind

  abbrev Answered : State → List Piece → List ℕ → State → Type 0
  Answered old pieces text new = AreAnswered (Responds admits hosted) over old pieces text new

  -- what the lines made of the session, over all volumes
  pub record GoesOn (waiting : Bool) (before : List Receipt) (old : Life) (stays : List Stay) (pieces : List Piece) (text : List ℕ) (new : State) : Type 0 where
    pub exchanges : List Exchange
    pub are_calls : AreCalls exchanges
    pub none : old.ended ≡ true → exchanges ≡ []
    pub lines_are : pieces ≡ map line_in exchanges
    pub text_is : text ≡ flat_map said_text exchanges
    pub now : Life
    pub is : new.0 ≡ Some now
    pub tenant : now.tenant ≡ old.tenant
    pub session : now.session ≡ old.session
    pub ended : now.ended ≡ (old.ended || has_ended exchanges)
    pub transacts : now.has_transaction ≡ transacts_from old.has_transaction exchanges
    -- in the last volume
    pub tail : List Exchange
    pub tail_calls : AreCalls tail
    pub tail_ended : waiting ≡ false → now.ended ≡ has_ended tail
    pub tail_none : waiting ≡ true → tail ≡ []
    pub all_calls : now.calls ≡ (before ++ flat_map calls_of stays) ++ receipts_of tail
    pub volumes : (last : List (List Receipt)) → AreVolumes tail last → AreVolumes exchanges (map (λ (stay : Stay). stay.0) stays ++ last)

  -- it waits, and nothing more is said
  goes_none : (before : List Receipt) (old : Life) (away : Bool) (pieces : List Piece) (text : List ℕ) (new : State) → old.calls ≡ before → (pieces ≡ []) × (text ≡ []) × (new ≡ (Some old, away)) → GoesOn true before old [] pieces text new
  goes_none before old away pieces text new calls_are (no_piece, no_text, same) = record {
    exchanges = [];
    are_calls = tt;
    none = λ ended. refl;
    lines_are = no_piece;
    text_is = no_text;
    now = old;
    is = ap (λ (x : State). x.0) same;
    tenant = refl;
    session = refl;
    ended = sym (or-false old.ended);
    transacts = refl;
    tail = [];
    tail_calls = tt;
    tail_ended = λ goes. absurd (false≢true (sym goes));
    tail_none = λ waits. refl;
    all_calls = calls_are ∙ sym (append-nil before) ∙ sym (append-nil (before ++ []));
    volumes = λ last are. are;
  }

  -- it is in the last volume
  goes_last : (before : List Receipt) (old : Life) (away : Bool) (pieces : List Piece) (text : List ℕ) (new : State) → old.ended ≡ false → old.calls ≡ before → Answered (Some old, away) pieces text new → GoesOn false before old [] pieces text new
  goes_last before old away pieces text new going calls_are told =
      let r = calls admits hosted old away pieces text new going told in record {
        exchanges = r.exchanges;
        are_calls = r.are_calls;
        none = λ ended. absurd (false≢true (sym going ∙ ended));
        lines_are = r.lines_are;
        text_is = r.text_is;
        now = r.new;
        is = r.is;
        tenant = r.tenant;
        session = r.session;
        ended = r.ended ∙ ap (λ (b : Bool). b || has_ended r.exchanges) (sym going);
        transacts = r.transacts;
        tail = r.exchanges;
        tail_calls = r.are_calls;
        tail_ended = λ goes. r.ended;
        tail_none = λ waits. absurd (false≢true waits);
        all_calls = r.calls ∙ ap (λ (l : List Receipt). l ++ receipts_of r.exchanges) (calls_are ∙ sym (append-nil before));
        volumes = λ last are. are;
      }

  -- a volume that it left, and what follows
  module _ (waiting : Bool) (before : List Receipt) (old : Life) (stay : Stay) (more : List Stay) (now behind : List Piece) (said rest : List ℕ) (mid : State) (going : old.ended ≡ false) (calls_are : old.calls ≡ before) (r : MovesBy old now said mid) (left : LeavesBehind before mid stay) where
    lives : r.new ≡ left.life
    lives = same_Some r.new left.life (sym r.is ∙ left.is)

    pub mid_calls : r.new.calls ≡ before ++ calls_of stay
    mid_calls = ap (λ (l : Life). l.calls) lives ∙ left.calls

    pub mid_ended : r.new.ended ≡ stay.1
    mid_ended = ap (λ (l : Life). l.ended) lives ∙ left.ended

    these : receipts_of r.exchanges ≡ calls_of stay
    these = append_cancel_left before (receipts_of r.exchanges) (calls_of stay) (ap (λ (l : List Receipt). l ++ receipts_of r.exchanges) (sym calls_are) ∙ sym r.calls ∙ mid_calls)

    are_left : AreReceipts r.exchanges stay.0
    are_left = record {
      opening = left.opening;
      closing = left.closing;
      are =
          left.receipts ∙ ap (λ (l : List Receipt). opening_receipt left.opening ∷ (l ++ closing_receipts stay.1 left.closing)) (sym these)
          ∙ ap (λ (b : Bool). opening_receipt left.opening ∷ (receipts_of r.exchanges ++ closing_receipts b left.closing)) (sym mid_ended ∙ r.ended);
    }

    pub goes_both : (pieces : List Piece) (text : List ℕ) (new : State) → pieces ≡ now ++ behind → text ≡ said ++ rest → GoesOn waiting (before ++ calls_of stay) r.new more behind rest new → GoesOn waiting before old (stay ∷ more) pieces text new
    goes_both pieces text new split cut g = record {
      exchanges = r.exchanges ++ g.exchanges;
      are_calls = calls_append r.exchanges g.exchanges r.are_calls (λ ended. g.none (r.ended ∙ ended)) g.are_calls;
      none = λ ended. absurd (false≢true (sym going ∙ ended));
      lines_are = split ∙ ap (λ (l : List Piece). l ++ behind) r.lines_are ∙ ap (λ (l : List Piece). map line_in r.exchanges ++ l) g.lines_are ∙ sym (map-append line_in r.exchanges g.exchanges);
      text_is = cut ∙ ap (λ (l : List ℕ). l ++ rest) r.text_is ∙ ap (λ (l : List ℕ). flat_map said_text r.exchanges ++ l) g.text_is ∙ sym (flat_map-append said_text r.exchanges g.exchanges);
      now = g.now;
      is = g.is;
      tenant = g.tenant ∙ r.tenant;
      session = g.session ∙ r.session;
      ended =
          g.ended ∙ ap (λ (b : Bool). b || has_ended g.exchanges) r.ended ∙ sym (ended_append r.exchanges g.exchanges)
          ∙ ap (λ (b : Bool). b || has_ended (r.exchanges ++ g.exchanges)) (sym going);
      transacts = g.transacts ∙ ap (λ (b : Bool). transacts_from b g.exchanges) r.transacts ∙ sym (transacts_append old.has_transaction r.exchanges g.exchanges);
      tail = g.tail;
      tail_calls = g.tail_calls;
      tail_ended = g.tail_ended;
      tail_none = g.tail_none;
      all_calls = g.all_calls ∙ ap (λ (l : List Receipt). l ++ receipts_of g.tail) (append_assoc before (calls_of stay) (flat_map calls_of more));
      volumes = λ last are. (r.exchanges, g.exchanges, refl, are_left, g.volumes last are);
    }

  pub goes_on : (waiting : Bool) (before : List Receipt) (old : Life) (away : Bool) (stays : List Stay) (pieces : List Piece) (text : List ℕ) (new : State) → (old.ended ≡ true → (stays ≡ []) × (waiting ≡ true)) → old.calls ≡ before
      → AreTold admits hosted waiting before (Some old, away) stays pieces text new → GoesOn waiting before old stays pieces text new
  goes_on true before old away [] pieces text new may calls_are told = goes_none before old away pieces text new calls_are told
  goes_on false before old away [] pieces text new may calls_are told =
      by_cases old.ended (λ ended. absurd (false≢true (may ended).1)) (λ going. goes_last before old away pieces text new going calls_are told)
  goes_on waiting before old away (stay ∷ more) pieces text new may calls_are (now, behind, said, rest, mid, split, cut, own, left, last, told) =
      by_cases old.ended (λ ended. absurd (let none : stay ∷ more ≡ [] = (may ended).0 in cc)) (λ going.
      let r = calls admits hosted old away now said mid going own in
      let first = goes_both waiting before old stay more now behind said rest mid going calls_are r left in
      first pieces text new split cut
      (goes_on waiting (before ++ calls_of stay) r.new mid.1 more behind rest new (λ ended. last (sym (mid_ended waiting before old stay more now behind said rest mid going calls_are r left) ∙ ended))
      (mid_calls waiting before old stay more now behind said rest mid going calls_are r left)
      (subst (λ (x : Option Life). AreTold admits hosted waiting (before ++ calls_of stay) (x, mid.1) more behind rest new) r.is told)))

  -- ---- the connection

  -- what is to be shown
  abbrev Whole : List Piece → List ℕ → List Stay → Option Stub → Bool → Type 0
  Whole pieces text stays stub is_over = Talks admits hosted pieces text (map (λ (stay : Stay). stay.0) stays) stub is_over × IfSome stub (λ s. IsClosed s.receipts.items)

  -- a line that opened no session is the last one
  none_behind : (p : Piece) (first : List ℕ) (ps : List Piece) (rest : List ℕ) (away : Bool) (new : State) → Greets admits hosted p first None away → Answered (None, away) ps rest new → (ps ≡ []) × (rest ≡ []) × (new ≡ (None, true))
  none_behind p first [] rest away new greets (none, same) = (refl, none, same ∙ ap (λ (b : Bool). (None, b)) (turned p first away greets).0)
  none_behind p first (q ∷ qs) rest away new greets (f, r, mid, is, still, own, later) = absurd (false≢true (sym still ∙ (turned p first away greets).0))

  -- no line came, or the connection was turned away
  unopened : (pieces : List Piece) (text : List ℕ) (away : Bool) (stub : Option Stub) → Answered (None, false) pieces text (None, away) → stub ≡ None → Whole pieces text [] stub (over (None, away))
  unopened [] text away stub (none, same) no_stub = ((none, refl, no_stub, ap (λ (x : State). x.1) same), subst (λ (s : Option Stub). IfSome s (λ k. IsClosed k.receipts.items)) (sym no_stub) tt)
  unopened (p ∷ ps) text away stub (first, rest, mid, is, going, greets, others) no_stub = by mid.0 mid.1 greets others
    where
      by : (s : Option Life) (gone : Bool) → Greets admits hosted p first s gone → Answered (s, gone) ps rest (None, away) → Whole (p ∷ ps) text [] stub (over (None, away))
      by None gone greets others =
          let n = none_behind p first ps rest gone (None, away) greets others in
          let t = turned p first gone greets in
          let said = t.1 in (
            inl ((n.0, (said.0, said.1, is ∙ ap (λ (x : List ℕ). first ++ x) n.1 ∙ append-nil first ∙ said.2), ap (λ (x : State). x.1) n.2), refl, no_stub),
            subst (λ (s : Option Stub). IfSome s (λ k. IsClosed k.receipts.items)) (sym no_stub) tt,
          )
      by (Some s) gone greets others =
          let r = calls admits hosted s gone ps rest (None, away) (ap (λ (x : Life). x.ended) (opened p first s gone greets).2.2) others in
          let e : None ≡ Some r.new = r.is in absurd cc

  -- the first line opened the session
  pub record IsOpenedBy (waiting : Bool) (before : List Receipt) (stays : List Stay) (pieces : List Piece) (text : List ℕ) (new : State) : Type 0 where
    pub first : Piece
    pub behind : List Piece
    pub said : List ℕ
    pub rest : List ℕ
    pub life : Life
    pub away : Bool
    pub split : pieces ≡ first ∷ behind
    pub cut : text ≡ said ++ rest
    pub greets : Greets admits hosted first said (Some life) away
    pub told : AreTold admits hosted waiting before (Some life, away) stays behind rest new

  -- where a session is there behind these lines
  greeted : (pieces : List Piece) (text : List ℕ) (new : State) (l : Life) → new.0 ≡ Some l → Answered (None, false) pieces text new → IsOpenedBy false [] [] pieces text new
  greeted [] text new l is (none, same) = absurd (let e : None ≡ Some l = ap (λ (x : State). x.0) (sym same) ∙ is in cc)
  greeted (p ∷ ps) text new l is (first, rest, mid, cut, going, greets, others) = by mid.0 mid.1 greets others
    where
      by : (s : Option Life) (gone : Bool) → Greets admits hosted p first s gone → Answered (s, gone) ps rest new → IsOpenedBy false [] [] (p ∷ ps) text new
      by None gone greets others =
          let n = none_behind p first ps rest gone new greets others in absurd (let e : None ≡ Some l = ap (λ (x : State). x.0) (sym n.2) ∙ is in cc)
      by (Some s) gone greets others = record { first = p; behind = ps; said = first; rest = rest; life = s; away = gone; split = refl; cut = cut; greets = greets; told = others }

  opened_first : (waiting : Bool) (stays : List Stay) (pieces : List Piece) (text : List ℕ) (new : State) (l : Life) → new.0 ≡ Some l → AreTold admits hosted waiting [] (None, false) stays pieces text new → IsOpenedBy waiting [] stays pieces text new
  opened_first true [] pieces text new l is (none, nothing, same) = absurd (let e : None ≡ Some l = ap (λ (x : State). x.0) (sym same) ∙ is in cc)
  opened_first false [] pieces text new l is told = greeted pieces text new l is told
  opened_first waiting (stay ∷ more) pieces text new l is (now, behind, said, rest, mid, split, cut, own, left, last, told) =
      let o = greeted now said mid left.life left.is own in record {
        first = o.first;
        behind = o.behind ++ behind;
        said = o.said;
        rest = o.rest ++ rest;
        life = o.life;
        away = o.away;
        split = split ∙ ap (λ (l : List Piece). l ++ behind) o.split;
        cut = cut ∙ ap (λ (l : List ℕ). l ++ rest) o.cut ∙ append_assoc o.said o.rest rest;
        greets = o.greets;
        told = (o.behind, behind, o.rest, rest, mid, refl, refl, o.told, left, last, told);
      }

  -- what it leaves in the last volume
  module _ (c : Caller) (away : Bool) (pieces : List Piece) (text : List ℕ) (o : IsOpenedBy c.waits [] c.stays pieces text (Some c.life, away)) where
    abbrev n : OpensNamed (named_by hosted.keyed o.first) o.said o.life
    n = opened o.first o.said o.life o.away o.greets

    abbrev fresh : o.life ≡ record { tenant = tenant_at hosted n.0.tenant; session = n.0.session; calls = []; ended = false; has_transaction = false }
    fresh = n.2.2

    abbrev g : GoesOn c.waits [] o.life c.stays o.behind o.rest (Some c.life, away)
    g =
        goes_on c.waits [] o.life o.away c.stays o.behind o.rest (Some c.life, away)
        (λ ended. absurd (false≢true (ap (λ (x : Life). x.ended) (sym fresh) ∙ ended))) (ap (λ (x : Life). x.calls) fresh) o.told

    it : c.life ≡ g.now
    it = same_Some c.life g.now g.is

    has_ended_so : c.life.ended ≡ has_ended g.exchanges
    has_ended_so = ap (λ (x : Life). x.ended) it ∙ g.ended ∙ ap (λ (x : Life). x.ended || has_ended g.exchanges) fresh

    serves : (stub : Option Stub) → IfSome stub (λ s. (s.tenant ≡ c.life.tenant) × (s.session ≡ c.life.session)) → AreVolumes g.tail (receipts_in stub)
        → Serves admits hosted o.first o.behind text (map (λ (stay : Stay). stay.0) c.stays) stub (over (Some c.life, away))
    serves stub of are = record {
      named = n.0;
      is_named = n.1;
      admitted = λ keyed. let v = admitted o.first o.said o.life o.away keyed o.greets in record { handshake = v.0; is = v.1; admitted = v.2 };
      within = (n.2.0, n.2.1);
      exchanges = g.exchanges;
      are_calls = g.are_calls;
      lines_are = g.lines_are;
      text_is = o.cut ∙ ap (λ (x : List ℕ). x ++ o.rest) n.3 ∙ ap (λ (x : List ℕ). welcome ++ x) g.text_is;
      stub_of = of_some stub of;
      receipts = g.volumes (receipts_in stub) are;
      over_is = has_ended_so;
    }
      where
        of_some : (s : Option Stub) → IfSome s (λ k. (k.tenant ≡ c.life.tenant) × (k.session ≡ c.life.session)) → IfSome s (λ k. (k.tenant ≡ tenant_at hosted n.0.tenant) × (k.session ≡ n.0.session))
        of_some None none = none
        of_some (Some k) (t, s) = (
          t ∙ ap (λ (x : Life). x.tenant) it ∙ g.tenant ∙ ap (λ (x : Life). x.tenant) fresh,
          s ∙ ap (λ (x : Life). x.session) it ∙ g.session ∙ ap (λ (x : Life). x.session) fresh,
        )

    -- the receipts of the last volume
    module _ (there : c.waits ≡ false) (k : Stub) (leaves : LeavesList c k) where
      these_calls : leaves.there.behind ≡ receipts_of g.tail
      these_calls =
          append_cancel_left (flat_map calls_of c.stays) leaves.there.behind (receipts_of g.tail)
          (sym leaves.there.calls ∙ ap (λ (x : Life). x.calls) it ∙ g.all_calls)

      left_last : AreReceipts g.tail k.receipts.items × IsClosed k.receipts.items
      left_last =
          let ended : c.life.ended ≡ has_ended g.tail = ap (λ (x : Life). x.ended) it ∙ g.tail_ended there in
          left_receipts leaves.there.opening g.tail g.tail_calls c.list k.receipts.items (leaves.there.list ∙ ap (λ (l : List Receipt). opening_receipt leaves.there.opening ∷ l) these_calls) (has_ended g.tail) refl
          (λ e. leaves.ended (ended ∙ e)) (λ e. leaves.closed (ended ∙ e))

    pub served : (stub : Option Stub) → LeavesBy c.waits c stub → Whole pieces text c.stays stub (over (Some c.life, away))
    served stub leaves = subst (λ (ps : List Piece). Whole ps text c.stays stub (over (Some c.life, away))) (sym o.split) (by_waits c.waits refl stub leaves)
      where
        by_waits : (w : Bool) → c.waits ≡ w → (s : Option Stub) → LeavesBy w c s → Whole (o.first ∷ o.behind) text c.stays s (over (Some c.life, away))
        by_waits true waits s (no_stub, calls_are) =
            subst (λ (x : Option Stub). Whole (o.first ∷ o.behind) text c.stays x (over (Some c.life, away))) (sym no_stub)
            (inr (serves None tt (g.tail_none waits)), tt)
        by_waits false there None none = absurd none
        by_waits false there (Some k) left =
            let l = left_last there k left in
            (inr (serves (Some k) (left.tenant, left.session) (g.tail, [], sym (append-nil g.tail), l.0, refl)), l.1)

  pub whole : (pieces : List Piece) (text : List ℕ) (caller : Option Caller) (away : Bool) (stub : Option Stub) → AreTold admits hosted (waits_in caller) [] (None, false) (stays_in caller) pieces text (talk_of caller away) → LeavesSome caller stub
      → Whole pieces text (stays_in caller) stub (over (talk_of caller away))
  whole pieces text None away stub told leaves = unopened pieces text away stub told leaves
  whole pieces text (Some c) away stub told leaves = served c away pieces text (opened_first c.waits c.stays pieces text (Some c.life, away) c.life refl told) stub leaves

  -- whether the session has a transaction
  pub transacting : (pieces : List Piece) (text : List ℕ) (new : State) (o : Life) → Answered (None, false) pieces text new → new.0 ≡ Some o
      → (first : Piece) × (es : List Exchange) × (pieces ≡ first ∷ map line_in es) × (text ≡ welcome ++ flat_map said_text es) × (o.has_transaction ≡ transacts_from false es)
  transacting pieces text new o told is =
      let b = greeted pieces text new o is told in
      let opens = opened b.first b.said b.life b.away b.greets in
      let r = calls admits hosted b.life b.away b.behind b.rest new (ap (λ (x : Life). x.ended) opens.2.2) b.told in
      let same : r.new ≡ o = same_Some r.new o (sym r.is ∙ is) in (
        b.first,
        r.exchanges,
        b.split ∙ ap (λ (qs : List Piece). b.first ∷ qs) r.lines_are,
        b.cut ∙ ap (λ (x : List ℕ). x ++ b.rest) opens.3 ∙ ap (λ (x : List ℕ). welcome ++ x) r.text_is,
        ap (λ (x : Life). x.has_transaction) (sym same) ∙ r.transacts ∙ ap (λ (b : Bool). transacts_from b r.exchanges) (ap (λ (x : Life). x.has_transaction) opens.2.2),
      )
