-- What a connection does keeps what holds of it.
use Rattle.std.proofs.Common.{◌≡◌, ◌⊎◌, ◌&&◌, not, map, ◌<◌, ◌≤◌, ◌+◌, ◌-◌, ◌∙◌, ◌==◌, MatchBool, arith, length, length-append, sym, ap, subst, refl, inl, inr, ℕ, Bool, true, false, List, [], ◌∷◌, ◌++◌, take, drop, append_assoc, append-nil, Option, Some, None}
use Rattle.std.specs.Option.{option_map_or}
use Rattle.std.specs.Prelude.{flat_map, is_some, IfNone, IfSome, OnErr, OnOk, Result, Ok, Err}
use Rattle.std.proofs.lemmas.Bool.{eqb-false, eqb-true, false≢true}
use Rattle.std.proofs.lemmas.List.{drop-append-le, length-drop, map-append, take-append-drop}
use Rattle.std.proofs.Math.Seq.{drop-append_seam, drop-length}
use Rattle.sb_wire.specs.Lines.{Completes, Piece, complete_pieces, last_piece, line, open_line, piece_of}
use Rattle.sb_wire.specs.Responses.{AreAnswered}
use Rattle.sb_desk.specs.declared.receipts.Receipt.{Receipt}
use Rattle.sb_desk.specs.Calls.{Session}
use Rattle.sb_desk.specs.declared.stub.Stub.{Stub}
use Rattle.sb_tenant.specs.declared.reply.Answer.{Answer}
use Rattle.sb_connection.specs.Callers.{Caller, IsNewcomer, LeavesBy, LeavesList, Life, Stay, Suspends, calls_of}
use Rattle.std.proofs.lemmas.Grind.{flat_map-append}
use Rattle.sb_connection.specs.declared.state.State.TheVariants.{Open, Answered, Over, Failed}
use Rattle.sb_connection.specs.declared.state.State as stands
use Rattle.sb_connection.specs.Conversation.{Hosted, Talks, named_by, welcome}
use Rattle.sb_connection.specs.Exchanges.{IsClosed, said_text}
use Rattle.sb_connection.specs.History.{AreAll, AreComplete, AreFirstLines, BindsAtMost, Converses, History, IsSessionOf, IsSettled, MayReceive, Stands, Tells, Transacts, after_end, after_receiving, after_resuming, after_sending, after_suspending, nothing_yet}
use Rattle.sb_connection.specs.ProtocolState.{Adds, AddsLast, Answers, AreSaid, AreTold, Finishes, Holds, IsNamedBy, IsWithin, IsWithinBy, ResumesIn, Steps, SuspendsIn, Talking, binding_after, binding_behind, ended, has_in, last_state, named_after, named_first, naming, stays, talk, waits}
use Rattle.sb_connection.specs.Policies.{Admits}
use Rattle.sb_connection.specs.Responses.{Greets, LeavesSome, Responds, RespondsBy, State, life_in, over, stays_in, talk_of, waits_in}
use Rattle.sb_connection.specs.declared.first_line.SessionName.{SessionName}
use Rattle.sb_connection.specs.Admission.{BringsKey}
use Rattle.sb_connection.specs.Standing.{is_open}
use Rattle.sb_connection.proofs.Admitting.{all_keep_session, keeps_session, last_cases, none_before, none_from, some_from}
use Rattle.sb_connection.proofs.Binding.{bound_by, few_by, few_sent, has_by, has_of, within_line, within_more, within_sent}
use Rattle.sb_connection.proofs.Volumes.{all_said, left_behind, said_then, told_resumed, told_suspended, told_then}
use Rattle.sb_connection.proofs.Whole.{admitted, transacting, whole}

pub nothing_holds : (admits : Admits) (hosted : Hosted) → Holds admits (record { history = nothing_yet hosted; opened = line []; caller = None; away = false })
nothing_holds admits hosted = record {
  pieces = [];
  text = [];
  tells = record { taken = []; split = refl; lost = []; whole = refl; stands = (refl, refl, refl) };
  is_open = refl;
  attached = refl;
  waiting = refl;
  left = refl;
  told = (refl, refl);
  named = refl;
  within = tt;
  few = omega arith;
}

-- behind the last line none is answered
pub closed_last : (s : stands.State) (old text new : List ℕ) → AddsLast s old text new → is_open s ≡ false
closed_last Open old text new none = absurd none
closed_last Answered old text new added = refl
closed_last Over old text new none = absurd none
closed_last Failed old text new same = refl

pub open_is : (s : stands.State) → is_open s ≡ true → s ≡ Open
open_is Open is = refl
open_is Answered is = absurd (false≢true is)
open_is Over is = absurd (false≢true is)
open_is Failed is = absurd (false≢true is)

-- nothing is left of bytes of which so many are taken
pub all_taken : (n : ℕ) (bytes : List ℕ) → n ≤ length bytes → drop n bytes ≡ [] → n ≡ length bytes
all_taken n bytes within none =
    let rest : length bytes - n ≡ 0 = sym (length-drop n bytes) ∙ ap length none in omega (arith, rest, within)

-- more may be received where all is taken
pub may_by : (b : Bool) (taken : ℕ) (bytes : List ℕ) (h : History) → (taken == length bytes) ≡ b → taken ≤ length bytes → is_open h.state ≡ true → h.at_end ≡ false → h.waits ≡ false → drop taken bytes ≡ h.waiting
    → MatchBool b (MayReceive h) (MayReceive h → ⊥)
may_by true taken bytes h all within going more there left =
    let same : taken ≡ length bytes = eqb-true taken (length bytes) all in (going, more, sym left ∙ ap (λ (n : ℕ). drop n bytes) same ∙ drop-length bytes, there)
may_by false taken bytes h all within going more there left = λ may.
    let same : taken ≡ length bytes = all_taken taken bytes within (left ∙ may.2) in
    absurd (eqb-false taken (length bytes) all same)

-- what is left of bytes behind a first part of those that were left
pub drop_behind : (n : ℕ) (bytes fed behind : List ℕ) → drop n bytes ≡ fed ++ behind → drop (length bytes - length behind) bytes ≡ behind
drop_behind n bytes fed behind is =
    let front = take n bytes ++ fed in
    let whole : bytes ≡ front ++ behind = sym (take-append-drop n bytes) ∙ ap (λ (t : List ℕ). take n bytes ++ t) is ∙ sym (append_assoc (take n bytes) fed behind) in
    let count : length (front ++ behind) - length behind ≡ length front = let sum = length-append front behind in omega (arith, sum) in
    subst (λ (t : List ℕ). drop (length t - length behind) t ≡ behind) (sym whole)
    (ap (λ (m : ℕ). drop m (front ++ behind)) count ∙ drop-append_seam front behind)

-- a session is there where its life is
some_life : (o : Option Caller) → is_some (life_in o) ≡ is_some o
some_life None = refl
some_life (Some c) = refl

-- of one that doesn't wait
there_by : (some waiting attached : Bool) → attached ≡ (some && not waiting) → waiting ≡ false → attached ≡ some
there_by some true attached is there = absurd (false≢true (sym there))
there_by true false attached is there = is
there_by false false attached is there = is

some_by : (some waiting : Bool) → (some && not waiting) ≡ true → some ≡ true
some_by true waiting is = refl
some_by false waiting is = absurd (false≢true is)

module _ (admits : Admits) (k : Talking) (holds : Holds admits k) where
  abbrev h : History
  h = k.history

  abbrev taken : List ℕ
  taken = holds.tells.taken

  -- whichever volumes they stand in
  answered : AreSaid admits h.hosted (None, false) holds.pieces holds.text (talk k)
  answered = all_said admits h.hosted (waits k) [] (None, false) (stays k) holds.pieces holds.text (talk k) holds.told

  -- the text so far with more of it, where nothing is lost
  whole_then : (handed pending own : List ℕ) → holds.tells.lost ≡ [] → handed ≡ h.handed → pending ≡ h.pending ++ own → holds.text ++ own ≡ handed ++ pending
  whole_then handed pending own none same is =
      ap (λ (t : List ℕ). t ++ own) (holds.tells.whole ∙ ap (λ (t : List ℕ). (h.handed ++ h.pending) ++ t) none ∙ append-nil (h.handed ++ h.pending))
      ∙ append_assoc h.handed h.pending own ∙ ap (λ (t : List ℕ). h.handed ++ t) (sym is) ∙ ap (λ (t : List ℕ). t ++ pending) (sym same)

  -- ---- the session

  first_lines : (s : stands.State) (seen : List ℕ) (pieces : List Piece) (lost : List ℕ) (b : Bool) → h.received ≡ seen ++ h.waiting → Stands s h seen pieces lost b → AreFirstLines h pieces
  first_lines Open seen pieces lost b split so = inl (seen, h.waiting, split, so.0)
  first_lines Answered seen pieces lost b split so = inr so.0
  first_lines Over seen pieces lost b split so = inl (seen, h.waiting, split, so.0)
  first_lines Failed seen pieces lost b split (inl some) = inl (seen, h.waiting, split, some)
  first_lines Failed seen pieces lost b split (inr all) = inr all

  -- it is the one that the first line names
  pub session_named : (named : SessionName) → h.named ≡ Some named → IsSessionOf h named
  session_named named is = by holds.pieces refl
    where
      by : (ps : List Piece) → holds.pieces ≡ ps → IsSessionOf h named
      by [] none = absurd (let e : Some named ≡ None = sym is ∙ holds.named ∙ ap (λ (qs : List Piece). named_first h.hosted.keyed qs) none in cc)
      by (p ∷ ps) some = record {
        first = p;
        behind = ps;
        are_first = subst (λ (qs : List Piece). AreFirstLines h qs) some (first_lines h.state taken holds.pieces holds.tells.lost (over (talk k)) holds.tells.split holds.tells.stands);
        is = ap (λ (qs : List Piece). named_first h.hosted.keyed qs) (sym some) ∙ sym holds.named ∙ is;
      }

  -- whether it has a transaction
  pub transacting_now : h.attached ≡ true → (has : Bool) → has ≡ option_map_or (λ (c : Caller). c.life.has_transaction) k.caller false → Transacts h has
  transacting_now attached has is =
      let one = some_from k.caller (some_by (is_some k.caller) (waits k) (sym holds.attached ∙ attached)) in
      let said = transacting admits h.hosted holds.pieces holds.text (talk k) one.0.life answered (ap life_in one.1) in record {
        first = said.0;
        exchanges = said.1;
        over = over (talk k);
        tells = subst (λ (ps : List Piece). Tells h ps (welcome ++ flat_map said_text said.1) (over (talk k))) said.2 (subst (λ (t : List ℕ). Tells h holds.pieces t (over (talk k))) said.3 holds.tells);
        is = is ∙ ap (λ (s : Option Caller). option_map_or (λ (c : Caller). c.life.has_transaction) s false) one.1 ∙ said.4;
      }

  -- what binds of what is to be sent
  pub binding_now : h.attached ≡ true → BindsAtMost h
  binding_now attached =
      let one = some_from k.caller (some_by (is_some k.caller) (waits k) (sym holds.attached ∙ attached)) in
      let w : IsWithin one.0.life.has_transaction holds.pieces holds.text holds.tells.lost h.handed h.binding =
      subst (λ (o : Option Caller). IsWithinBy (life_in o) holds.pieces holds.text holds.tells.lost h.handed h.binding) one.1 holds.within in record {
        first = w.first;
        before = w.before;
        behind = w.behind;
        over = over (talk k);
        tells = record {
          taken = taken;
          split = holds.tells.split;
          lost = holds.tells.lost;
          whole = sym w.text_is ∙ holds.tells.whole;
          stands = subst (λ (ps : List Piece). Stands h.state h taken ps holds.tells.lost (over (talk k))) w.lines_are holds.tells.stands;
        };
        within = w.within;
        sent = w.sent;
      }

  -- ---- from outside

  stands_sent : (s : stands.State) (count : ℕ) (pieces : List Piece) (lost : List ℕ) (b : Bool) → Stands s h taken pieces lost b → Stands s (after_sending h count) taken pieces lost b
  stands_sent Open count pieces lost b so = so
  stands_sent Answered count pieces lost b so = so
  stands_sent Over count pieces lost b so = so
  stands_sent Failed count pieces lost b so = so

  -- the same is told where something was sent, or no more comes
  holds_with : (at_end : Bool) (handed pending : List ℕ) (binding : ℕ) → holds.text ≡ (handed ++ pending) ++ holds.tells.lost
      → Stands h.state (record h { at_end = at_end; handed = handed; pending = pending; binding = binding }) taken holds.pieces holds.tells.lost (over (talk k))
      → IsWithinBy (life_in k.caller) holds.pieces holds.text holds.tells.lost handed binding → binding ≤ length pending
      → Holds admits (record k { history = record h { at_end = at_end; handed = handed; pending = pending; binding = binding } })
  holds_with at_end handed pending binding whole so within few = record {
    pieces = holds.pieces;
    text = holds.text;
    tells = record {
      taken = taken;
      split = holds.tells.split;
      lost = holds.tells.lost;
      whole = whole;
      stands = so;
    };
    is_open = holds.is_open;
    attached = holds.attached;
    waiting = holds.waiting;
    left = holds.left;
    told = holds.told;
    named = holds.named;
    within = within;
    few = few;
  }

  pub holds_sent : (count : ℕ) → Holds admits (record k { history = after_sending h count })
  holds_sent count =
      let sent : (h.handed ++ take count h.pending) ++ drop count h.pending ≡ h.handed ++ h.pending =
      append_assoc h.handed (take count h.pending) (drop count h.pending) ∙ ap (λ (t : List ℕ). h.handed ++ t) (take-append-drop count h.pending) in
      holds_with h.at_end (h.handed ++ take count h.pending) (drop count h.pending) (h.binding - count) (holds.tells.whole ∙ ap (λ (t : List ℕ). t ++ holds.tells.lost) (sym sent))
      (stands_sent h.state count holds.pieces holds.tells.lost (over (talk k)) holds.tells.stands)
      (within_sent (life_in k.caller) holds.pieces holds.text holds.tells.lost h.handed h.pending h.binding count holds.few holds.within) (few_sent h.pending h.binding count holds.few)

  -- ---- where the session doesn't wait

  no_caller : h.waits ≡ false → h.attached ≡ false → k.caller ≡ None
  no_caller there before = none_from k.caller (sym (there_by (is_some k.caller) (waits k) h.attached holds.attached (sym holds.waiting ∙ there)) ∙ before)

  was_there : h.attached ≡ true → is_some (life_in k.caller) ≡ true
  was_there before = some_life k.caller ∙ some_by (is_some k.caller) (waits k) (sym holds.attached ∙ before)

  stays_there : (new : Talking) → h.waits ≡ false → new.history.attached ≡ (is_some new.caller && not (waits new)) → waits new ≡ waits k → is_some (life_in new.caller) ≡ true → new.history.attached ≡ true
  stays_there new there attached same some =
      there_by (is_some new.caller) (waits new) new.history.attached attached (same ∙ sym holds.waiting ∙ there) ∙ sym (some_life new.caller) ∙ some

  -- more lines are answered in the volume
  told_more : (new : Talking) → h.waits ≡ false → new.history.hosted ≡ h.hosted → stays new ≡ stays k → waits new ≡ waits k → (qs : List Piece) (text : List ℕ) → AreSaid admits h.hosted (talk k) qs text (talk new)
      → AreTold admits new.history.hosted (waits new) [] (None, false) (stays new) (holds.pieces ++ qs) (holds.text ++ text) (talk new)
  told_more new there host same_stays same_waits qs text more =
      let waits_not : waits k ≡ false = sym holds.waiting ∙ there in
      let before : AreTold admits h.hosted false [] (None, false) (stays k) holds.pieces holds.text (talk k) =
      subst (λ (w : Bool). AreTold admits h.hosted w [] (None, false) (stays k) holds.pieces holds.text (talk k)) waits_not holds.told in
      let after = told_then admits h.hosted [] (None, false) (talk k) (talk new) (stays k) holds.pieces qs holds.text text before more in
      subst (λ (n : Hosted). AreTold admits n (waits new) [] (None, false) (stays new) (holds.pieces ++ qs) (holds.text ++ text) (talk new)) (sym host)
      (subst (λ (w : Bool). AreTold admits h.hosted w [] (None, false) (stays new) (holds.pieces ++ qs) (holds.text ++ text) (talk new)) (sym (same_waits ∙ waits_not))
      (subst (λ (l : List Stay). AreTold admits h.hosted false [] (None, false) l (holds.pieces ++ qs) (holds.text ++ text) (talk new)) (sym same_stays) after))

  module _ (going : is_open h.state ≡ true) where
    standing : AreComplete taken holds.pieces × (holds.tells.lost ≡ []) × (over (talk k) ≡ false)
    standing = subst (λ (s : stands.State). Stands s h taken holds.pieces holds.tells.lost (over (talk k))) (open_is h.state going) holds.tells.stands

    pub not_over : over (talk k) ≡ false
    not_over = standing.2

    -- what is named behind lines more
    names_more : (ps : List Piece) → named_after k.caller h.hosted.keyed h.named ps ≡ named_first h.hosted.keyed (holds.pieces ++ ps)
    names_more ps = names_by k.caller refl ps
      where
        names_new : (ps : List Piece) → holds.pieces ≡ [] → named_after None h.hosted.keyed h.named ps ≡ named_first h.hosted.keyed (holds.pieces ++ ps)
        names_new [] none =
            holds.named ∙ ap (λ (qs : List Piece). named_first h.hosted.keyed qs) (sym (append-nil holds.pieces))
        names_new (p ∷ ps) none = ap (λ (qs : List Piece). named_first h.hosted.keyed (qs ++ p ∷ ps)) (sym none)

        names_old : (s : Caller) (qs ps : List Piece) → k.caller ≡ Some s → holds.pieces ≡ qs → h.named ≡ named_first h.hosted.keyed (qs ++ ps)
        names_old s [] ps is none =
            let said = subst (λ (qs : List Piece). AreSaid admits h.hosted (None, false) qs holds.text (talk k)) none answered in
            absurd (let e : None ≡ Some s.life = ap (λ (x : State). x.0) (sym said.1) ∙ ap life_in is in cc)
        names_old s (q ∷ qs) ps is some = holds.named ∙ ap (λ (rs : List Piece). named_first h.hosted.keyed rs) some

        names_by : (o : Option Caller) → k.caller ≡ o → (ps : List Piece) → named_after o h.hosted.keyed h.named ps ≡ named_first h.hosted.keyed (holds.pieces ++ ps)
        names_by None is ps = names_new ps (none_before admits h.hosted holds.pieces holds.text (talk k) answered (ap life_in is) standing.2)
        names_by (Some s) is ps = names_old s holds.pieces ps is refl

    -- what is told behind lines more: nothing is lost of their text
    all_told : (new : History) (seen : List ℕ) (pieces : List Piece) (own : List ℕ) (is_over : Bool) → new.received ≡ seen ++ new.waiting → new.handed ≡ h.handed → new.pending ≡ h.pending ++ own
        → Stands new.state new seen pieces [] is_over → (t : Tells new pieces (holds.text ++ own) is_over) × (t.taken ≡ seen)
    all_told new seen pieces own is_over split same added so = (
      record {
        taken = seen;
        split = split;
        lost = [];
        whole = whole_then new.handed new.pending own standing.1 same added ∙ sym (append-nil (new.handed ++ new.pending));
        stands = so;
      },
      refl,
    )

    -- or memory ran out for it
    none_told : (new : History) (seen : List ℕ) (pieces : List Piece) (own : List ℕ) (is_over : Bool) → new.received ≡ seen ++ new.waiting → new.handed ≡ h.handed → new.pending ≡ h.pending
        → Stands new.state new seen pieces own is_over → (t : Tells new pieces (holds.text ++ own) is_over) × (t.taken ≡ seen)
    none_told new seen pieces own is_over split same left so = (
      record {
        taken = seen;
        split = split;
        lost = own;
        whole =
            whole_then new.handed (h.pending ++ own) own standing.1 same refl ∙ sym (append_assoc new.handed h.pending own)
            ∙ ap (λ (t : List ℕ). (new.handed ++ t) ++ own) (sym left);
        stands = so;
      },
      refl,
    )

    stands_open : (new : History) (others : List ℕ) → new.state ≡ h.state → AreComplete others holds.pieces → Stands new.state new others holds.pieces holds.tells.lost (over (talk k))
    stands_open new others same all = subst (λ (s : stands.State). Stands s new others holds.pieces holds.tells.lost (over (talk k))) (sym (same ∙ open_is h.state going)) (all, standing.1, standing.2)

    pub holds_received : (bytes : List ℕ) → Holds admits (record k { history = after_receiving h bytes })
    holds_received bytes = record {
      pieces = holds.pieces;
      text = holds.text;
      tells = record {
        taken = taken;
        split = ap (λ (t : List ℕ). t ++ bytes) holds.tells.split ∙ append_assoc taken h.waiting bytes;
        lost = holds.tells.lost;
        whole = holds.tells.whole;
        stands = stands_open (after_receiving h bytes) taken refl standing.0;
      };
      is_open = holds.is_open;
      attached = holds.attached;
      waiting = holds.waiting;
      left = holds.left;
      told = holds.told;
      named = holds.named;
      within = holds.within;
      few = holds.few;
    }

    pub holds_ended : Holds admits (record k { history = after_end h })
    holds_ended = holds_with true h.handed h.pending h.binding holds.tells.whole (stands_open (after_end h) taken refl standing.0) holds.within holds.few

    -- before a session is there no line was answered
    alone : life_in k.caller ≡ None → (holds.pieces ≡ []) × (holds.text ≡ [])
    alone none =
        let no_piece = none_before admits h.hosted holds.pieces holds.text (talk k) answered none standing.2 in
        (no_piece, (subst (λ (qs : List Piece). AreSaid admits h.hosted (None, false) qs holds.text (talk k)) no_piece answered).0)

    -- nothing is lost yet
    within_yet : IsWithinBy (life_in k.caller) holds.pieces holds.text [] h.handed h.binding
    within_yet = subst (λ (t : List ℕ). IsWithinBy (life_in k.caller) holds.pieces holds.text t h.handed h.binding) standing.1 holds.within

    -- what binds behind one line more
    within_then : (new : Talking) (p : Piece) (own lost : List ℕ) → RespondsBy admits h.hosted (life_in k.caller) p own (talk new) → new.history.handed ≡ h.handed
        → holds.text ++ own ≡ (new.history.handed ++ new.history.pending) ++ lost → new.history.binding ≡ binding_after (has_in new.caller) h.binding (length new.history.pending)
        → IsWithinBy (life_in new.caller) (holds.pieces ++ p ∷ []) (holds.text ++ own) lost new.history.handed new.history.binding
    within_then new p own lost responds same whole binds =
        let yet : IsWithinBy (life_in k.caller) holds.pieces holds.text [] new.history.handed h.binding =
        subst (λ (t : List ℕ). IsWithinBy (life_in k.caller) holds.pieces holds.text [] t h.binding) (sym same) within_yet in
        within_line admits h.hosted p own holds.pieces holds.text lost new.history.handed new.history.pending h.binding new.history.binding whole (talk k) (talk new) alone responds yet
        (binds ∙ ap (λ (b : Bool). binding_after b h.binding (length new.history.pending)) (has_by new.caller))

    -- at most as much as before and what was said
    few_then : (new : Talking) (s : stands.State) (own : List ℕ) → Adds s h.pending own new.history.pending (over (talk new)) → new.history.binding ≡ binding_after (has_in new.caller) h.binding (length new.history.pending)
        → new.history.binding ≤ length new.history.pending
    few_then new s own adds binds = few_by (has_in new.caller) h.binding new.history.binding (length new.history.pending) binds (grown s h.pending own new.history.pending (over (talk new)) adds (length h.pending) refl holds.few)
      where
        grown : (s : stands.State) (old own new : List ℕ) (is_over : Bool) → Adds s old own new is_over → (n : ℕ) → n ≡ length old → h.binding ≤ n → h.binding ≤ length new
        grown Open old own new is_over (added, going_on) n n_is few = let long = ap length added in let sum = length-append old own in omega (arith, long, sum, n_is, few)
        grown Answered old own new is_over none n n_is few = absurd none
        grown Over old own new is_over (added, at_last) n n_is few = let long = ap length added in let sum = length-append old own in omega (arith, long, sum, n_is, few)
        grown Failed old own new is_over same n n_is few = let long = ap length same in omega (arith, long, n_is, few)

    -- ---- a step

    -- what waits goes on with the open line
    pub holds_none : (q : Piece) → Completes k.opened h.waiting [] q → Holds admits (record k { history = record h { waiting = [] }; opened = q })
    holds_none q completes =
        let more = completes.behind taken holds.is_open in record {
          pieces = holds.pieces;
          text = holds.text;
          tells = record {
            taken = taken ++ h.waiting;
            split = holds.tells.split ∙ sym (append-nil (taken ++ h.waiting));
            lost = holds.tells.lost;
            whole = holds.tells.whole;
            stands = stands_open (record h { waiting = [] }) (taken ++ h.waiting) refl (standing.0 ∙ sym (more.0 ∙ append-nil (complete_pieces taken)));
          };
          is_open = more.1;
          attached = holds.attached;
          waiting = holds.waiting;
          left = holds.left;
          told = holds.told;
          named = holds.named;
          within = holds.within;
          few = holds.few;
        }

    -- the line that the first bytes complete is answered
    module _ (fed behind : List ℕ) (split : h.waiting ≡ fed ++ behind) (p : Piece) (completes : Completes k.opened fed (p ∷ []) (line [])) (new : Talking) (a : Answers admits (record k { history = record h { waiting = behind }; opened = p }) new) (there : h.waits ≡ false) where
      abbrev pieces : List Piece
      pieces = holds.pieces ++ p ∷ []

      complete : AreComplete (taken ++ fed) pieces
      complete = ap (λ (ps : List Piece). ps ++ p ∷ []) standing.0 ∙ sym (completes.behind taken holds.is_open).0

      new_split : new.history.received ≡ (taken ++ fed) ++ new.history.waiting
      new_split =
          a.streams.2 ∙ holds.tells.split ∙ ap (λ (t : List ℕ). taken ++ t) split ∙ sym (append_assoc taken fed behind)
          ∙ ap (λ (t : List ℕ). (taken ++ fed) ++ t) (sym a.waiting)

      stands_by : (s : stands.State) (lost : List ℕ) → new.history.state ≡ s → Stands s new.history (taken ++ fed) pieces lost (over (talk new)) → Stands new.history.state new.history (taken ++ fed) pieces lost (over (talk new))
      stands_by s lost is so = subst (λ (now : stands.State). Stands now new.history (taken ++ fed) pieces lost (over (talk new))) (sym is) so

      told : (s : stands.State) → new.history.state ≡ s → Adds s h.pending a.text new.history.pending (over (talk new)) → (t : Tells new.history pieces (holds.text ++ a.text) (over (talk new))) × (t.taken ≡ taken ++ fed)
      told Open is (added, going_on) = all_told new.history (taken ++ fed) pieces a.text (over (talk new)) new_split a.streams.3 added (stands_by Open [] is (complete, refl, going_on))
      told Answered is none = absurd none
      told Over is (added, at_last) = all_told new.history (taken ++ fed) pieces a.text (over (talk new)) new_split a.streams.3 added (stands_by Over [] is (complete, refl, at_last))
      told Failed is same = none_told new.history (taken ++ fed) pieces a.text (over (talk new)) new_split a.streams.3 same (stands_by Failed a.text is (inl complete))

      pub holds_line : IsNamedBy k (p ∷ []) new → Holds admits (record new { opened = line [] })
      holds_line named =
          let t = told new.history.state refl a.adds in record {
            pieces = pieces;
            text = holds.text ++ a.text;
            tells = t.0;
            is_open = (completes.behind taken holds.is_open).1 ∙ ap (λ (bytes : List ℕ). piece_of (open_line bytes)) (sym t.1);
            attached = a.attached;
            waiting = a.streams.5 ∙ holds.waiting ∙ sym a.waits_are;
            left = a.streams.4 ∙ holds.left ∙ ap (λ (l : List Stay). map (λ (stay : Stay). stay.0) l) (sym a.stays_are);
            told = told_more new there a.streams.0 a.stays_are a.waits_are (p ∷ []) a.text (a.text, [], talk new, sym (append-nil a.text), standing.2, a.responds, (refl, refl));
            named = named ∙ names_more (p ∷ []) ∙ ap (λ (n : Hosted). named_first n.keyed pieces) (sym a.streams.0);
            within = within_then new p a.text t.0.lost a.responds a.streams.3 t.0.whole a.binds;
            few = few_then new new.history.state a.text a.adds a.binds;
          }

      -- it took bytes
      pub took : length new.history.waiting < length h.waiting
      took = fed_by fed refl
        where
          fed_by : (bytes : List ℕ) → fed ≡ bytes → length new.history.waiting < length h.waiting
          fed_by [] none =
              let same : complete_pieces taken ++ p ∷ [] ≡ complete_pieces taken = sym (completes.behind taken holds.is_open).0 ∙ ap complete_pieces (ap (λ (t : List ℕ). taken ++ t) none ∙ append-nil taken) in
              let count = ap length same in
              let sum = length-append (complete_pieces taken) (p ∷ []) in
              absurd (omega (arith, count, sum))
          fed_by (b ∷ bytes) some =
              let whole : length h.waiting ≡ length (b ∷ bytes) + length behind = ap length (split ∙ ap (λ (t : List ℕ). t ++ behind) some) ∙ length-append (b ∷ bytes) behind in
              let left : length new.history.waiting ≡ length behind = ap length a.waiting in
              omega (arith, whole, left)

      -- a session that it opens
      pub brings : new.history.hosted.keyed ≡ true → h.attached ≡ false → new.history.attached ≡ true → BringsKey admits new.history
      brings keyed before after =
          let none : k.caller ≡ None = no_caller there before in
          let alone : holds.pieces ≡ [] = none_before admits h.hosted holds.pieces holds.text (talk k) answered (ap life_in none) standing.2 in
          let greets : Greets admits h.hosted p a.text (life_in new.caller) new.away = subst (λ (s : Option Caller). RespondsBy admits h.hosted (life_in s) p a.text (talk new)) none a.responds in
          let one = some_from new.caller (some_by (is_some new.caller) (waits new) (sym a.attached ∙ after)) in
          let handshake = admitted admits h.hosted p a.text one.0.life new.away (ap (λ (n : Hosted). n.keyed) (sym a.streams.0) ∙ keyed)
          (subst (λ (s : Option Caller). Greets admits h.hosted p a.text (life_in s) new.away) one.1 greets) in record {
            first = p;
            begins = inl (taken ++ fed, new.history.waiting, new_split, sym complete ∙ ap (λ (ps : List Piece). ps ++ p ∷ []) alone);
            handshake = handshake.0;
            is = handshake.1;
            admitted = handshake.2;
          }

    -- the line that stands open at the end is answered
    module _ (none : h.waiting ≡ []) (at_end : h.at_end ≡ true) (new : Talking) (a : Finishes admits k new) (there : h.waits ≡ false) where
      abbrev all : List Piece
      all = holds.pieces ++ last_piece k.opened

      same_bytes : new.history.received ≡ taken
      same_bytes = a.streams.2 ∙ holds.tells.split ∙ ap (λ (t : List ℕ). taken ++ t) none ∙ append-nil taken

      are_all : AreAll new.history.received all
      are_all =
          ap (λ (ps : List Piece). ps ++ last_piece k.opened) standing.0 ∙ ap (λ (p : Piece). complete_pieces taken ++ last_piece p) holds.is_open
          ∙ ap (λ (t : List ℕ). complete_pieces t ++ last_piece (piece_of (open_line t))) (sym same_bytes)

      last_split : new.history.received ≡ taken ++ new.history.waiting
      last_split = a.streams.2 ∙ holds.tells.split ∙ ap (λ (t : List ℕ). taken ++ t) (sym a.waiting)

      last_told : (s : stands.State) → new.history.state ≡ s → AddsLast s h.pending a.text new.history.pending → (t : Tells new.history all (holds.text ++ a.text) (over (talk new))) × (t.taken ≡ taken)
      last_told Open is added = absurd added
      last_told Answered is added =
          all_told new.history taken all a.text (over (talk new)) last_split a.streams.3 added
          (subst (λ (s : stands.State). Stands s new.history taken all [] (over (talk new))) (sym is) (are_all, refl, a.streams.1 ∙ at_end))
      last_told Over is added = absurd added
      last_told Failed is same =
          none_told new.history taken all a.text (over (talk new)) last_split a.streams.3 same
          (subst (λ (s : stands.State). Stands s new.history taken all a.text (over (talk new))) (sym is) (inr are_all))

      -- what binds behind it: as before, where there is no line
      same_last : last_piece k.opened ≡ [] → (a.text ≡ []) × (talk new ≡ talk k)
      same_last no_line = subst (λ (ps : List Piece). AreAnswered (Responds admits h.hosted) over (talk k) ps a.text (talk new)) no_line a.answered

      binds_by : (ps : List Piece) → last_piece k.opened ≡ ps → new.history.binding ≡ binding_behind ps (has_in new.caller) h.binding (length new.history.pending)
      binds_by ps is = a.binds ∙ ap (λ (qs : List Piece). binding_behind qs (has_in new.caller) h.binding (length new.history.pending)) is

      last_responds : last_piece k.opened ≡ k.opened ∷ [] → RespondsBy admits h.hosted (life_in k.caller) k.opened a.text (talk new)
      last_responds is =
          let are = subst (λ (ps : List Piece). AreAnswered (Responds admits h.hosted) over (talk k) ps a.text (talk new)) is a.answered in
          let own : are.0 ≡ a.text = sym (append-nil are.0) ∙ ap (λ (t : List ℕ). are.0 ++ t) (sym are.6.0) ∙ sym are.3 in
          subst (λ (s : State). RespondsBy admits h.hosted (life_in k.caller) k.opened a.text s) (sym are.6.1)
          (subst (λ (t : List ℕ). RespondsBy admits h.hosted (life_in k.caller) k.opened t are.2) own are.5)

      last_within : (lost : List ℕ) → holds.text ++ a.text ≡ (new.history.handed ++ new.history.pending) ++ lost → (last_piece k.opened ≡ []) ⊎ (last_piece k.opened ≡ k.opened ∷ [])
          → IsWithinBy (life_in new.caller) all (holds.text ++ a.text) lost new.history.handed new.history.binding
      last_within lost whole (inl no_line) =
          let same = same_last no_line in
          let lines : holds.pieces ≡ all = sym (append-nil holds.pieces) ∙ ap (λ (ps : List Piece). holds.pieces ++ ps) (sym no_line) in
          let text : holds.text ≡ holds.text ++ a.text = sym (append-nil holds.text) ∙ ap (λ (t : List ℕ). holds.text ++ t) (sym same.0) in
          subst (λ (s : State). IsWithinBy s.0 all (holds.text ++ a.text) lost new.history.handed new.history.binding) (sym same.1)
          (subst (λ (n : ℕ). IsWithinBy (life_in k.caller) all (holds.text ++ a.text) lost new.history.handed n) (sym (binds_by [] no_line))
          (subst (λ (t : List ℕ). IsWithinBy (life_in k.caller) all (holds.text ++ a.text) lost t h.binding) (sym a.streams.3)
          (subst (λ (t : List ℕ). IsWithinBy (life_in k.caller) all t lost h.handed h.binding) text
          (subst (λ (ps : List Piece). IsWithinBy (life_in k.caller) ps holds.text lost h.handed h.binding) lines
          (within_more (life_in k.caller) holds.pieces holds.text lost h.handed h.binding within_yet)))))
      last_within lost whole (inr is) =
          subst (λ (ps : List Piece). IsWithinBy (life_in new.caller) (holds.pieces ++ ps) (holds.text ++ a.text) lost new.history.handed new.history.binding) (sym is)
          (within_then new k.opened a.text lost (last_responds is) a.streams.3 whole (binds_by (k.opened ∷ []) is))

      grown_last : h.binding ≤ length new.history.pending
      grown_last = by new.history.state a.text new.history.pending a.adds
        where
          by : (s : stands.State) (own pending : List ℕ) → AddsLast s h.pending own pending → h.binding ≤ length pending
          by Open own pending none = absurd none
          by Answered own pending added = let long = ap length added in let sum = length-append h.pending own in let few = holds.few in omega (arith, long, sum, few)
          by Over own pending none = absurd none
          by Failed own pending same = let long = ap length same in let few = holds.few in omega (arith, long, few)

      last_few : (last_piece k.opened ≡ []) ⊎ (last_piece k.opened ≡ k.opened ∷ []) → new.history.binding ≤ length new.history.pending
      last_few (inl no_line) = subst (λ (n : ℕ). n ≤ length new.history.pending) (sym (binds_by [] no_line)) grown_last
      last_few (inr is) = few_by (has_in new.caller) h.binding new.history.binding (length new.history.pending) (binds_by (k.opened ∷ []) is) grown_last

      pub holds_last : IsNamedBy k (last_piece k.opened) new → Holds admits new
      holds_last named =
          let t = last_told new.history.state refl a.adds in record {
            pieces = all;
            text = holds.text ++ a.text;
            tells = t.0;
            is_open = a.opened ∙ holds.is_open ∙ ap (λ (bytes : List ℕ). piece_of (open_line bytes)) (sym t.1);
            attached = a.attached;
            waiting = a.streams.5 ∙ holds.waiting ∙ sym a.waits_are;
            left = a.streams.4 ∙ holds.left ∙ ap (λ (l : List Stay). map (λ (stay : Stay). stay.0) l) (sym a.stays_are);
            told = told_more new there a.streams.0 a.stays_are a.waits_are (last_piece k.opened) a.text a.answered;
            named = named ∙ names_more (last_piece k.opened) ∙ ap (λ (n : Hosted). named_first n.keyed all) (sym a.streams.0);
            within = last_within t.0.lost t.0.whole (last_cases k.opened);
            few = last_few (last_cases k.opened);
          }

      -- a session that it opens
      pub brings_last : new.history.hosted.keyed ≡ true → h.attached ≡ false → new.history.attached ≡ true → BringsKey admits new.history
      brings_last keyed before after = by (last_cases k.opened)
        where
          closed : k.caller ≡ None
          closed = no_caller there before

          one : (s : Caller) × (new.caller ≡ Some s)
          one = some_from new.caller (some_by (is_some new.caller) (waits new) (sym a.attached ∙ after))

          alone : holds.pieces ≡ []
          alone = none_before admits h.hosted holds.pieces holds.text (talk k) answered (ap life_in closed) standing.2

          by : (last_piece k.opened ≡ []) ⊎ (last_piece k.opened ≡ k.opened ∷ []) → BringsKey admits new.history
          by (inl no_line) =
              let same = (subst (λ (ps : List Piece). AreAnswered (Responds admits h.hosted) over (talk k) ps a.text (talk new)) no_line a.answered).1 in
              absurd (let e : Some one.0.life ≡ None = sym (ap life_in one.1) ∙ ap (λ (x : State). x.0) same ∙ ap life_in closed in cc)
          by (inr is) =
              let are = subst (λ (ps : List Piece). AreAnswered (Responds admits h.hosted) over (talk k) ps a.text (talk new)) is a.answered in
              let mid = are.2 in
              let now : mid ≡ talk new = sym are.6.1 in
              let greets : Greets admits h.hosted k.opened are.0 mid.0 mid.1 = subst (λ (s : Option Caller). RespondsBy admits h.hosted (life_in s) k.opened are.0 mid) closed are.5 in
              let handshake = admitted admits h.hosted k.opened are.0 one.0.life mid.1 (ap (λ (n : Hosted). n.keyed) (sym a.streams.0) ∙ keyed)
              (subst (λ (s : Option Life). Greets admits h.hosted k.opened are.0 s mid.1) (ap (λ (x : State). x.0) now ∙ ap life_in one.1) greets) in record {
                first = k.opened;
                begins = inr (a.streams.1 ∙ at_end, ap complete_pieces same_bytes ∙ sym standing.0 ∙ alone, holds.is_open ∙ ap (λ (t : List ℕ). piece_of (open_line t)) (sym same_bytes));
                handshake = handshake.0;
                is = handshake.1;
                admitted = handshake.2;
              }

-- ---- steps, from the fields of a connection

-- no line is answered
pub still : (admits : Admits) (k : Talking) → IsSettled k.history → Steps admits k false k
still admits k settled = record {
  holds = λ holds. holds;
  lets = λ holds keyed before after. absurd (false≢true (sym before ∙ after));
  stays = λ holds before. before;
  goes = λ holds more. absurd (false≢true more);
  streams = (refl, refl, refl, refl, refl, refl);
  settles = λ over. settled;
}

abbrev with_waiting : Talking → List ℕ → Piece → Talking
with_waiting k waiting opened = record k { history = record k.history { waiting = waiting }; opened = opened }

module _ (admits : Admits) (k0 k : Talking) (is : k0 ≡ k) (going : is_open k0.history.state ≡ true) (there : k0.history.waits ≡ false) (waiting : List ℕ) where
  pub line_step : (fed behind : List ℕ) (p q : Piece) (new0 new : Talking) → k0.history.waiting ≡ fed ++ behind → waiting ≡ behind → Completes k0.opened fed (p ∷ []) (line []) → q ≡ line [] → new0 ≡ new
      → Answers admits (with_waiting k0 waiting p) new → IsNamedBy (with_waiting k0 waiting p) (p ∷ []) new → Steps admits k true (record new0 { opened = q })
  line_step fed behind p q new0 new split left completes cleared view_is a named =
      let answers : Answers admits (with_waiting k0 behind p) new = subst (λ (t : List ℕ). Answers admits (with_waiting k0 t p) new) left a in
      subst (λ (m : Talking). Steps admits m true (record new0 { opened = q })) is
      (subst (λ (n : Talking). Steps admits k0 true (record n { opened = q })) (sym view_is)
      (subst (λ (r : Piece). Steps admits k0 true (record new { opened = r })) (sym cleared)
      (record {
        holds = λ holds. holds_line admits k0 holds going fed behind split p completes new answers there named;
        lets = λ holds. brings admits k0 holds going fed behind split p completes new answers there;
        stays = λ holds before. stays_there admits k0 holds new there answers.attached answers.waits_are
            (keeps_session admits k0.history.hosted (talk k0) p answers.text (talk new) answers.responds (was_there admits k0 holds before));
        goes = λ holds more. took admits k0 holds going fed behind split p completes new answers there;
        streams = a.streams;
        settles = λ more. absurd (false≢true (sym more));
      })))

  pub none_step : (q : Piece) → waiting ≡ [] → Completes k0.opened k0.history.waiting [] q → k0.history.at_end ≡ false → Steps admits k false (with_waiting k0 waiting q)
  none_step q none completes more =
      subst (λ (m : Talking). Steps admits m false (with_waiting k0 waiting q)) is
      (subst (λ (t : List ℕ). Steps admits k0 false (with_waiting k0 t q)) (sym none)
      (record {
        holds = λ holds. holds_none admits k0 holds going q completes;
        lets = λ holds keyed before after. absurd (false≢true (sym before ∙ after));
        stays = λ holds before. before;
        goes = λ holds more. absurd (false≢true more);
        streams = (refl, refl, refl, refl, refl, refl);
        settles = λ over. inr (inr (inl (refl, more)));
      }))

  pub last_step : (q : Piece) (new : Talking) → waiting ≡ [] → Completes k0.opened k0.history.waiting [] q → k0.history.at_end ≡ true → Finishes admits (with_waiting k0 waiting q) new → IsNamedBy (with_waiting k0 waiting q) (last_piece q) new → Steps admits k false new
  last_step q new none completes at_end a named =
      let finishes : Finishes admits (with_waiting k0 [] q) new = subst (λ (t : List ℕ). Finishes admits (with_waiting k0 t q) new) none a in
      let open_yet : Holds admits k0 → Holds admits (with_waiting k0 [] q) = λ holds. holds_none admits k0 holds going q completes in
      subst (λ (m : Talking). Steps admits m false new) is
      (record {
        holds = λ holds. holds_last admits (with_waiting k0 [] q) (open_yet holds) going refl at_end new finishes there named;
        lets = λ holds. brings_last admits (with_waiting k0 [] q) (open_yet holds) going refl at_end new finishes there;
        stays = λ holds before. stays_there admits k0 holds new there finishes.attached finishes.waits_are
            (all_keep_session admits k0.history.hosted (talk k0) (last_piece q) finishes.text (talk new) finishes.answered (was_there admits k0 holds before));
        goes = λ holds more. absurd (false≢true more);
        streams = a.streams;
        settles = λ over. inl (closed_last new.history.state _ _ _ a.adds);
      })

-- ---- its name

-- what answers the line under its name answers it
pub answers_named : (admits : Admits) (old new : Talking) → Answers admits (naming old) new → Answers admits old new
answers_named admits old new a =
    record { text = a.text; responds = a.responds; adds = a.adds; binds = a.binds; attached = a.attached; stays_are = a.stays_are; waits_are = a.waits_are; streams = a.streams; waiting = a.waiting; opened = a.opened }

-- ---- the last line

last_some : (p q : Piece) → q ∷ [] ≡ last_piece p → last_piece p ≡ p ∷ []
last_some p q some =
    elim (last_cases p) [
      | inl none ↦ absurd (let e : q ∷ [] ≡ [] = some ∙ none in cc)
      | inr is ↦ is
    ]

adds_last : (s : stands.State) (old text new : List ℕ) (is_over : Bool) → Adds s old text new is_over → AddsLast (last_state s) old text new
adds_last Open old text new is_over added = added.0
adds_last Answered old text new is_over none = absurd none
adds_last Over old text new is_over added = added.0
adds_last Failed old text new is_over same = same

module _ (old mid : Talking) (q : Piece) (some : q ∷ [] ≡ last_piece old.opened) where
  -- it is answered, and no other one comes
  pub finishes_line : (admits : Admits) → over (talk old) ≡ false → Answers admits old mid → Finishes admits old (ended mid)
  finishes_line admits going a = record {
    text = a.text;
    answered =
        subst (λ (ps : List Piece). AreAnswered (Responds admits old.history.hosted) over (talk old) ps a.text (talk mid)) (sym (last_some old.opened q some))
        (a.text, [], talk mid, sym (append-nil a.text), going, a.responds, (refl, refl));
    adds = adds_last mid.history.state old.history.pending a.text mid.history.pending (over (talk mid)) a.adds;
    binds = a.binds ∙ ap (λ (ps : List Piece). binding_behind ps (has_in mid.caller) old.history.binding (length mid.history.pending)) (sym (last_some old.opened q some));
    attached = a.attached;
    stays_are = a.stays_are;
    waits_are = a.waits_are;
    streams = a.streams;
    waiting = a.waiting;
    opened = a.opened;
  }

  pub named_last : IsNamedBy old (old.opened ∷ []) mid → IsNamedBy old (last_piece old.opened) (ended mid)
  named_last named = subst (λ (ps : List Piece). IsNamedBy old ps mid) (sym (last_some old.opened q some)) named

-- none stands open there
pub finishes_nothing : (admits : Admits) (old : Talking) → last_piece old.opened ≡ [] → old.history.attached ≡ (is_some old.caller && not (waits old))
    → Finishes admits old (record old { history = record old.history { state = Answered } })
finishes_nothing admits old none attached = record {
  text = [];
  answered = subst (λ (ps : List Piece). AreAnswered (Responds admits old.history.hosted) over (talk old) ps [] (talk old)) (sym none) (refl, refl);
  adds = sym (append-nil old.history.pending);
  binds = ap (λ (ps : List Piece). binding_behind ps (has_in old.caller) old.history.binding (length old.history.pending)) (sym none);
  attached = attached;
  stays_are = refl;
  waits_are = refl;
  streams = (refl, refl, refl, refl, refl, refl);
  waiting = refl;
  opened = refl;
}

-- ---- what a reply adds

module _ {T E : Type 0} (r : Result T E) where
  -- behind what waits
  pub adds_by : (s : stands.State) (is_over : Bool) (sent : ℕ) (old text new : List ℕ) → sent ≤ length old → OnErr r (s ≡ Failed) → OnOk r (MatchBool is_over (s ≡ Over) (s ≡ Open))
      → OnOk r (new ≡ old ++ text) → OnErr r (new ≡ old) → Adds s (drop sent old) text (drop sent new) is_over
  adds_by s is_over sent old text new within failed done more same = by r is_over failed done more same
    where
      behind : new ≡ old ++ text → drop sent new ≡ drop sent old ++ text
      behind is = ap (λ (l : List ℕ). drop sent l) is ∙ drop-append-le sent old text within

      by : (a : Result T E) (b : Bool) → OnErr a (s ≡ Failed) → OnOk a (MatchBool b (s ≡ Over) (s ≡ Open)) → OnOk a (new ≡ old ++ text) → OnErr a (new ≡ old) → Adds s (drop sent old) text (drop sent new) b
      by (Err e) b failed done more same = subst (λ (t : stands.State). Adds t (drop sent old) text (drop sent new) b) (sym failed) (ap (λ (l : List ℕ). drop sent l) same)
      by (Ok x) true failed done more same = subst (λ (t : stands.State). Adds t (drop sent old) text (drop sent new) true) (sym done) (behind more, refl)
      by (Ok x) false failed done more same = subst (λ (t : stands.State). Adds t (drop sent old) text (drop sent new) false) (sym done) (behind more, refl)

-- ---- volumes

-- its session leaves one
module _ (admits : Admits) (old : Talking) (stub : Stub) (new : Talking) (holds : Holds admits old) (by : SuspendsIn old stub new) where
  abbrev was : Caller
  was = by.before

  abbrev now : Caller
  now = by.after

  abbrev stay : Stay
  stay = (stub.receipts.items, was.life.ended)

  now_waits : now.waits ≡ true
  now_waits = ap (λ (x : Caller). x.waits) by.suspends.new_is

  now_stays : now.stays ≡ was.stays ++ stay ∷ []
  now_stays = ap (λ (x : Caller). x.stays) by.suspends.new_is

  now_life : now.life ≡ was.life
  now_life = ap (λ (x : Caller). x.life) by.suspends.new_is

  same_talk : talk_of (Some now) old.away ≡ talk old
  same_talk = ap (λ (l : Life). (Some l, old.away)) now_life ∙ ap (λ (o : Option Caller). talk_of o old.away) (sym by.was)

  lefts : old.history.left ++ stub.receipts.items ∷ [] ≡ map (λ (s : Stay). s.0) now.stays
  lefts =
      ap (λ (l : List (List Receipt)). l ++ stub.receipts.items ∷ []) (holds.left ∙ ap (λ (o : Option Caller). map (λ (s : Stay). s.0) (stays_in o)) by.was)
      ∙ sym (map-append (λ (s : Stay). s.0) was.stays (stay ∷ [])) ∙ ap (λ (l : List Stay). map (λ (s : Stay). s.0) l) (sym now_stays)

  before_told : AreTold admits old.history.hosted false [] (None, false) was.stays holds.pieces holds.text (Some was.life, old.away)
  before_told =
      subst (λ (w : Bool). AreTold admits old.history.hosted w [] (None, false) was.stays holds.pieces holds.text (Some was.life, old.away)) by.suspends.was_there
      (subst (λ (o : Option Caller). AreTold admits old.history.hosted (waits_in o) [] (None, false) (stays_in o) holds.pieces holds.text (talk_of o old.away)) by.was holds.told)

  now_told : AreTold admits old.history.hosted now.waits [] (None, false) now.stays holds.pieces holds.text (talk_of (Some now) old.away)
  now_told =
      subst (λ (w : Bool). AreTold admits old.history.hosted w [] (None, false) now.stays holds.pieces holds.text (Some now.life, old.away)) (sym now_waits)
      (subst (λ (l : List Stay). AreTold admits old.history.hosted true [] (None, false) l holds.pieces holds.text (Some now.life, old.away)) (sym now_stays)
      (subst (λ (l : Life). AreTold admits old.history.hosted true [] (None, false) (was.stays ++ stay ∷ []) holds.pieces holds.text (Some l, old.away)) (sym now_life)
      (told_suspended admits old.history.hosted [] (None, false) (Some was.life, old.away) was.stays stay holds.pieces holds.text before_told (left_behind was stub by.suspends.leaves old.away))))

  stands_left : (s : stands.State) (pieces : List Piece) (lost : List ℕ) (b : Bool) → Stands s old.history holds.tells.taken pieces lost b → Stands s (after_suspending old.history stub.receipts.items) holds.tells.taken pieces lost b
  stands_left Open pieces lost b so = so
  stands_left Answered pieces lost b so = so
  stands_left Over pieces lost b so = so
  stands_left Failed pieces lost b so = so

  abbrev tells_left : Tells (after_suspending old.history stub.receipts.items) holds.pieces holds.text (over (talk_of (Some now) old.away))
  tells_left = record {
    taken = holds.tells.taken;
    split = holds.tells.split;
    lost = holds.tells.lost;
    whole = holds.tells.whole;
    stands = subst (λ (t : State). Stands old.history.state (after_suspending old.history stub.receipts.items) holds.tells.taken holds.pieces holds.tells.lost (over t)) (sym same_talk) (stands_left old.history.state holds.pieces holds.tells.lost (over (talk old)) holds.tells.stands);
  }

  now_within : IsWithinBy (Some now.life) holds.pieces holds.text holds.tells.lost old.history.handed old.history.binding
  now_within = subst (λ (s : State). IsWithinBy s.0 holds.pieces holds.text holds.tells.lost old.history.handed old.history.binding) (sym same_talk) holds.within

  pub holds_suspended : Holds admits new
  holds_suspended = subst (Holds admits) (sym by.is) (record {
    pieces = holds.pieces;
    text = holds.text;
    tells = tells_left;
    is_open = holds.is_open;
    attached = ap not (sym now_waits);
    waiting = sym now_waits;
    left = lefts;
    told = now_told;
    named = holds.named;
    within = now_within;
    few = holds.few;
  })

-- it is in the next one
module _ (admits : Admits) (old : Talking) (holds : Holds admits old) (c : Caller) (was : old.caller ≡ Some c) (waits_yet : c.waits ≡ true) (going : c.life.ended ≡ false) where
  waiting_told : AreTold admits old.history.hosted true [] (None, false) c.stays holds.pieces holds.text (Some c.life, old.away)
  waiting_told =
      subst (λ (w : Bool). AreTold admits old.history.hosted w [] (None, false) c.stays holds.pieces holds.text (Some c.life, old.away)) waits_yet
      (subst (λ (o : Option Caller). AreTold admits old.history.hosted (waits_in o) [] (None, false) (stays_in o) holds.pieces holds.text (talk_of o old.away)) was holds.told)

  stands_again : (s : stands.State) (pieces : List Piece) (lost : List ℕ) (b : Bool) → Stands s old.history holds.tells.taken pieces lost b → Stands s (after_resuming old.history) holds.tells.taken pieces lost b
  stands_again Open pieces lost b so = so
  stands_again Answered pieces lost b so = so
  stands_again Over pieces lost b so = so
  stands_again Failed pieces lost b so = so

  abbrev tells_again : Tells (after_resuming old.history) holds.pieces holds.text (over (Some c.life, old.away))
  tells_again = record {
    taken = holds.tells.taken;
    split = holds.tells.split;
    lost = holds.tells.lost;
    whole = holds.tells.whole;
    stands = subst (λ (o : Option Caller). Stands old.history.state (after_resuming old.history) holds.tells.taken holds.pieces holds.tells.lost (over (talk_of o old.away))) was (stands_again old.history.state holds.pieces holds.tells.lost (over (talk old)) holds.tells.stands);
  }

  pub holds_again : (list : List Receipt) (last : Option Answer) → Holds admits (record old { history = after_resuming old.history; caller = Some (record c { list = list; waits = false; last = last }) })
  holds_again list last = record {
    pieces = holds.pieces;
    text = holds.text;
    tells = tells_again;
    is_open = holds.is_open;
    attached = refl;
    waiting = refl;
    left = holds.left ∙ ap (λ (o : Option Caller). map (λ (s : Stay). s.0) (stays_in o)) was;
    told = told_resumed admits old.history.hosted (Some c.life, old.away) c.life refl going [] (None, false) c.stays holds.pieces holds.text waiting_told;
    named = holds.named;
    within = subst (λ (o : Option Caller). IsWithinBy (life_in o) holds.pieces holds.text holds.tells.lost old.history.handed old.history.binding) was holds.within;
    few = holds.few;
  }

pub holds_resumed : (admits : Admits) (old new : Talking) → Holds admits old → ResumesIn old new → Holds admits new
holds_resumed admits old new holds (inl (same, why)) = subst (Holds admits) (sym same) holds
holds_resumed admits old new holds (inr (c, s, was, waits_yet, going, newcomer, is)) = subst (Holds admits) (sym is) (holds_again admits old holds c was waits_yet going s.list s.last)

-- ---- what a call for it leaves

-- its session leaves a volume, if it does
pub suspended_in : (r : Option Stub) (old new : Talking) (before after : Caller) → old.caller ≡ Some before → IfSome r (λ stub. Suspends before stub after)
    → new ≡ record old { history = record old.history { attached = not after.waits; waits = after.waits; left = map (λ (s : Stay). s.0) after.stays }; caller = Some after }
    → old.history.left ≡ map (λ (s : Stay). s.0) before.stays → IfSome r (λ stub. SuspendsIn old stub new)
suspended_in None old new before after was suspends is left = tt
suspended_in (Some stub) old new before after was suspends is left =
    let waits_now : after.waits ≡ true = ap (λ (c : Caller). c.waits) suspends.new_is in
    let left_now : map (λ (s : Stay). s.0) after.stays ≡ old.history.left ++ stub.receipts.items ∷ [] =
    ap (λ (c : Caller). map (λ (s : Stay). s.0) c.stays) suspends.new_is ∙ map-append (λ (s : Stay). s.0) before.stays ((stub.receipts.items, before.life.ended) ∷ [])
    ∙ ap (λ (l : List (List Receipt)). l ++ stub.receipts.items ∷ []) (sym left) in record {
      before = before;
      after = after;
      was = was;
      suspends = suspends;
      is =
          is ∙ ap (λ (w : Bool). record old { history = record old.history { attached = not w; waits = w; left = map (λ (s : Stay). s.0) after.stays }; caller = Some after }) waits_now
          ∙ ap (λ (l : List (List Receipt)). record old { history = record old.history { attached = false; waits = true; left = l }; caller = Some after }) left_now;
    }

-- or goes on in the next one
pub resumed_in : (old new : Talking) (before after : Caller) (s : Session) → old.caller ≡ Some before → before.waits ≡ true → before.life.ended ≡ false → IsNewcomer before.life.tenant before.life.session s
    → after ≡ record before { list = s.list; waits = false; last = s.last }
    → new ≡ record old { history = record old.history { attached = not after.waits; waits = after.waits; left = map (λ (s : Stay). s.0) after.stays }; caller = Some after }
    → old.history.left ≡ map (λ (s : Stay). s.0) before.stays → ResumesIn old new
resumed_in old new before after s was waits_yet going newcomer there is left = inr (
  before,
  s,
  was,
  waits_yet,
  going,
  newcomer,
  is
      ∙ ap (λ (c : Caller). record old { history = record old.history { attached = not c.waits; waits = c.waits; left = map (λ (s : Stay). s.0) c.stays }; caller = Some c }) there
      ∙ ap (λ (l : List (List Receipt)). record old { history = record old.history { attached = true; waits = false; left = l }; caller = Some (record before { list = s.list; waits = false; last = s.last }) }) (sym left),
)

-- and keeps what holds
pub holds_after : (admits : Admits) (r : Option Stub) (old new : Talking) → Holds admits old → IfSome r (λ stub. SuspendsIn old stub new) → IfNone r (new ≡ old) → Holds admits new
holds_after admits None old new holds some none = subst (Holds admits) (sym none) holds
holds_after admits (Some stub) old new holds some none = holds_suspended admits old stub new holds some

pub holds_by : {E : Type 0} (admits : Admits) (r : Result (Unit {0}) E) (old new : Talking) → Holds admits old → OnOk r (ResumesIn old new) → OnErr r (new ≡ old) → Holds admits new
holds_by admits (Ok x) old new holds ok err = holds_resumed admits old new holds ok
holds_by admits (Err e) old new holds ok err = subst (Holds admits) (sym err) holds

-- what was said so far, with the volume that was just left
pub conversed : (admits : Admits) (r : Option Stub) (old new : Talking) → Holds admits old → IfSome r (λ stub. SuspendsIn old stub new) → IfSome r (λ stub. Converses admits new.history None)
conversed admits None old new holds some = tt
conversed admits (Some stub) old new holds some =
    let so = holds_suspended admits old stub new holds some in
    let caller_is : new.caller ≡ Some some.after = ap (λ (k : Talking). k.caller) some.is in
    let behind = left_behind some.before stub some.suspends.leaves old.away in
    let calls_are : some.after.life.calls ≡ flat_map calls_of some.after.stays =
    ap (λ (c : Caller). c.life.calls) some.suspends.new_is ∙ ap (λ (o : Option Life). option_map_or (λ (l : Life). l.calls) o []) behind.is ∙ behind.calls
    ∙ ap (λ (l : List Receipt). flat_map calls_of some.before.stays ++ l) (sym (append-nil (calls_of (stub.receipts.items, some.before.life.ended))))
    ∙ sym (flat_map-append calls_of some.before.stays ((stub.receipts.items, some.before.life.ended) ∷ []))
    ∙ ap (λ (c : Caller). flat_map calls_of c.stays) (sym some.suspends.new_is) in
    let none_left : LeavesSome new.caller None =
    subst (λ (o : Option Caller). LeavesSome o None) (sym caller_is)
    (subst (λ (w : Bool). LeavesBy w some.after None) (sym (ap (λ (c : Caller). c.waits) some.suspends.new_is)) (refl, calls_are)) in
    let all = whole admits new.history.hosted so.pieces so.text new.caller new.away None so.told none_left in record {
      pieces = so.pieces;
      text = so.text;
      over = over (talk new);
      tells = so.tells;
      talks = subst (λ (l : List (List Receipt)). Talks admits new.history.hosted so.pieces so.text l None (over (talk new))) (sym so.left) all.0;
    }

-- and its receipts end with an `end`
pub closed_there : (admits : Admits) (r : Option Stub) (old new : Talking) → Holds admits old → IfSome r (λ stub. SuspendsIn old stub new) → IfSome r (λ stub. IsClosed stub.receipts.items)
closed_there admits None old new holds some = tt
closed_there admits (Some stub) old new holds some =
    let leaves : LeavesSome old.caller (Some stub) =
    subst (λ (o : Option Caller). LeavesSome o (Some stub)) (sym some.was)
    (subst (λ (w : Bool). LeavesBy w some.before (Some stub)) (sym some.suspends.was_there) some.suspends.leaves) in
    (whole admits old.history.hosted holds.pieces holds.text old.caller old.away (Some stub) holds.told leaves).1

-- or it has a transaction
pub transacting_still : (admits : Admits) (k : Talking) → Holds admits k → (r : Option Stub) → IfNone r (k.history.attached ≡ true → option_map_or (λ (c : Caller). c.life.has_transaction) k.caller false ≡ true)
    → IfNone r (k.history.attached ≡ true → Transacts k.history true)
transacting_still admits k holds None why = λ attached. transacting_now admits k holds attached true (sym (why attached))
transacting_still admits k holds (Some stub) why = tt
