-- A connection goes on, message by message.
use Rattle.std.proofs.Common.{◌≡◌, ◌<◌, ◌+◌, ◌-◌, ℕ, Bool, true, false, List, [], ◌∷◌, ◌++◌, length, take, drop, inl, inr, refl, sym, ap, ◌∙◌, subst, arith, append_assoc, append-nil, length-append}
use Rattle.std.specs.List.{flat_map}
use Rattle.std.proofs.Math.Seq.{drop-append_seam}
use Rattle.std.proofs.lemmas.List.{take-append-drop, take_rest}
use Rattle.std.proofs.lemmas.Grind.{flat_map-append}
use Rattle.sb_postgres.specs.Fields.{word}
use Rattle.sb_postgres.specs.Frames.{Begins, BeginsPacket, frame, packet}
use Rattle.sb_postgres.specs.Startup as startup
use Rattle.sb_postgres.specs.Messages as messages
use Rattle.sb_frontend.specs.declared.phase.Phase.TheVariants as phase
use Rattle.sb_frontend.specs.declared.taken.Taken.TheVariants as taken
use Rattle.sb_frontend.specs.Conversations.{Standing, at_start, in_phase}
use Rattle.sb_frontend.specs.Dialogues.{Answers, Dialogue, IsNoMessage, IsNoPacket, IsPartial, IsSettled, IsUnreadable, Item, SameStreams, Takes, Talks, bytes_of, cut, is_over, is_starting, message_of, packet_of, unreadable}
use Rattle.sb_frontend.specs.Outputs.{Outgoing, Sends, written}
use Rattle.sb_frontend.specs.Starts.{Source}
use Rattle.sb_frontend.specs.Steps.{Steps, Violates, after_cut}
use Rattle.sb_frontend.specs.Takings.{TakesMessage, TakesPacket, without_memory}
use Rattle.sb_frontend.specs.Talking.{Talking}
use Rattle.sb_frontend.proofs.Conversing.{talking}

-- ---- bytes

-- what stands behind the first bytes of what is left
pub drop_behind : (n : ℕ) (bytes front rest : List ℕ) → drop n bytes ≡ front ++ rest → drop (length bytes - length rest) bytes ≡ rest
drop_behind n bytes front rest is =
    let all = take n bytes ++ front in
    let whole : bytes ≡ all ++ rest = sym (take-append-drop n bytes) ∙ ap (λ (t : List ℕ). take n bytes ++ t) is ∙ sym (append_assoc (take n bytes) front rest) in
    let count : length (all ++ rest) - length rest ≡ length all = let sum = length-append all rest in omega (arith, sum) in
    subst (λ (t : List ℕ). drop (length t - length rest) t ≡ rest) (sym whole)
    (ap (λ (m : ℕ). drop m (all ++ rest)) count ∙ drop-append_seam all rest)

shorter : (b : ℕ) (front rest : List ℕ) → length rest < length ((b ∷ front) ++ rest)
shorter b front rest = let sum = length-append (b ∷ front) rest in omega (arith, sum)

shorter-by : (front rest : List ℕ) → 0 < length front → length rest < length (front ++ rest)
shorter-by front rest some = let sum = length-append front rest in omega (arith, sum, some)

some-bytes : (body : List ℕ) → 0 < length (packet body)
some-bytes body = let sum = length-append (word (length body + 4)) body in omega (arith, sum)

-- ---- one behind the other

talks-append : (source : Source) (e : Bool) (is js : List Item) (a b c : Standing) (t u : List ℕ) → Talks source e is a t b → Talks source e js b u c → Talks source e (is ++ js) a (t ++ u) c
talks-append source e [] js a b c t u one two =
    let from : Talks source e js a u c = subst (λ (s : Standing). Talks source e js s u c) one.1 two in
    subst (λ (text : List ℕ). Talks source e js a (text ++ u) c) (sym one.0) from
talks-append source e (i ∷ is) js a b c t u one two =
    (one.0, one.1 ++ u, one.2, one.3, talks-append source e is js one.2 b c one.1 u one.4 two, ap (λ (text : List ℕ). text ++ u) one.5 ∙ append_assoc one.0 one.1 u)

sends-then : (t u : List ℕ) (a b c : Outgoing) → Sends t a b → Sends u b c → Sends (t ++ u) a c
sends-then t u a b c one two w =
    let h = two w in
    let g = one h.0 in
    (g.0, h.1 ∙ ap (λ (x : List ℕ). x ++ u) g.1 ∙ append_assoc a.bytes t u)

pub none-answered : (source : Source) (d : Dialogue) → Answers source d d
none-answered source d = ([], [], refl, (refl, refl), (λ w. (w, sym (append-nil d.out.bytes))), (refl, refl, refl))

pub answers-then : (source : Source) (a b c : Dialogue) → Answers source a b → Answers source b c → Answers source a c
answers-then source a b c one two =
    let next : Talks source a.at_end two.0 b.at two.1 c.at = subst (λ (e : Bool). Talks source e two.0 b.at two.1 c.at) one.5.0 two.3 in (
      one.0 ++ two.0,
      one.1 ++ two.1,
      one.2 ∙ ap (λ (t : List ℕ). flat_map bytes_of one.0 ++ t) two.2 ∙ sym (append_assoc (flat_map bytes_of one.0) (flat_map bytes_of two.0) c.waiting)
          ∙ ap (λ (t : List ℕ). t ++ c.waiting) (sym (flat_map-append bytes_of one.0 two.0)),
      talks-append source a.at_end one.0 two.0 a.at b.at c.at one.1 two.1 one.3 next,
      sends-then one.1 two.1 a.out b.out c.out one.4 two.4,
      (two.5.0 ∙ one.5.0, two.5.1 ∙ one.5.1, two.5.2 ∙ one.5.2),
    )

-- behind what was answered before
pub answers-talk : (source : Source) (old new : Dialogue) (items : List Item) (text : List ℕ) → Talks source old.at_end items at_start text old.at → (a : Answers source old new)
    → (flat_map bytes_of items ++ old.waiting ≡ flat_map bytes_of (items ++ a.0) ++ new.waiting) × Talks source new.at_end (items ++ a.0) at_start (text ++ a.1) new.at
answers-talk source old new items text before a = (
  ap (λ (t : List ℕ). flat_map bytes_of items ++ t) a.2 ∙ sym (append_assoc (flat_map bytes_of items) (flat_map bytes_of a.0) new.waiting)
      ∙ ap (λ (t : List ℕ). t ++ new.waiting) (sym (flat_map-append bytes_of items a.0)),
  subst (λ (e : Bool). Talks source e (items ++ a.0) at_start (text ++ a.1) new.at) (sym a.5.0) (talks-append source old.at_end items a.0 at_start old.at new.at text a.1 before a.3),
)

one-answered : (source : Source) (old new : Dialogue) (i : Item) (text : List ℕ) → old.waiting ≡ bytes_of i ++ new.waiting → Takes source old.at_end i old.at text new.at → Sends text old.out new.out → SameStreams old new
    → Answers source old new
one-answered source old new i text bytes takes sends same =
    (i ∷ [], text, bytes ∙ ap (λ (t : List ℕ). t ++ new.waiting) (sym (append-nil (bytes_of i))), (text, [], new.at, takes, (refl, refl), sym (append-nil text)), sends, same)

-- ---- steps that answer nothing

not-goes : (P : Type 0) → false ≡ true → P
not-goes P e = absurd (let f : ◌≡◌ {A = Bool} false true = e in cc)

pub stays-settled : (source : Source) (d : Dialogue) → IsSettled d → Steps source d false d
stays-settled source d settled = record { answers = none-answered source d; settles = λ e. settled; goes = λ e. not-goes _ e }

pub no-memory : (source : Source) (old new : Dialogue) → new ≡ record old { out = record old.out { failed = true } } → Steps source old false new
no-memory source old new is = subst (λ (d : Dialogue). Steps source old false d) (sym is) (record {
  answers = ([], [], refl, (refl, refl), (λ w. absurd (let f : ◌≡◌ {A = Bool} true false = w in cc)), (refl, refl, refl));
  settles = λ e. inr (inl refl);
  goes = λ e. not-goes _ e;
})

pub no-memory-in : (source : Source) (old : Dialogue) (k : Talking) → k ≡ without_memory (talking old.at old.out) → Steps source old false (record old { at = k.at; out = k.out })
no-memory-in source old k same = no-memory source old (record old { at = k.at; out = k.out }) (ap (λ (t : Talking). record old { at = t.at; out = t.out }) same)

-- ---- the end

pub violates : (source : Source) (old new : Dialogue) → IsUnreadable (is_starting old.at.phase) old.waiting → Violates old new → Steps source old false new
violates source old new bad v =
    let over : is_over new.at.phase ≡ true = ap (λ (s : Standing). is_over s.phase) v.1.1 in
    record {
      answers = one-answered source old new (unreadable old.waiting) (written v.0) (sym (append-nil old.waiting) ∙ ap (λ (t : List ℕ). old.waiting ++ t) (sym v.3)) (bad, v.0, v.1, refl) v.2 v.4;
      settles = λ e. inl over;
      goes = λ e. not-goes _ e;
    }

cut-off : (source : Source) (old : Dialogue) → old.at_end ≡ true → IsPartial (is_starting old.at.phase) old.waiting → Steps source old false (record old { at = in_phase phase.Over old.at; waiting = [] })
cut-off source old e partial = record {
  answers = one-answered source old (record old { at = in_phase phase.Over old.at; waiting = [] }) (cut old.waiting) [] (sym (append-nil old.waiting)) (e, partial, refl, refl) (λ w. (w, sym (append-nil old.out.bytes))) (refl, refl, refl);
  settles = λ e. inl refl;
  goes = λ e. not-goes _ e;
}

pub cuts : (source : Source) (old new : Dialogue) → IsPartial (is_starting old.at.phase) old.waiting → new ≡ after_cut old → Steps source old false new
cuts source old new partial is = go old.at_end refl
  where
    go : (b : Bool) → old.at_end ≡ b → Steps source old false new
    go true e =
        let over : after_cut old ≡ record old { at = in_phase phase.Over old.at; waiting = [] } = rw e refl in
        subst (λ (d : Dialogue). Steps source old false d) (sym (is ∙ over)) (cut-off source old e partial)
    go false e =
        let same : after_cut old ≡ old = rw e refl in
        subst (λ (d : Dialogue). Steps source old false d) (sym (is ∙ same)) (stays-settled source old (inr (inr (inr partial))))

-- ---- a packet, a message

pub packet-answered : (source : Source) (old new : Dialogue) (body rest : List ℕ) → old.at.phase ≡ phase.Starting → old.waiting ≡ packet body ++ rest → new.waiting ≡ rest → SameStreams old new
    → TakesPacket source body (talking old.at old.out) taken.Answered (talking new.at new.out) → Steps source old true new
packet-answered source old new body rest starting is left same t =
    let bytes : old.waiting ≡ packet (startup.body_of t.0) ++ new.waiting = is ∙ ap (λ (b : List ℕ). packet b ++ rest) (sym t.2) ∙ ap (λ (r : List ℕ). packet (startup.body_of t.0) ++ r) (sym left) in
    record {
      answers = one-answered source old new (packet_of t.0) t.3.0 bytes (starting, t.1, t.3.1) t.3.2 same;
      settles = λ e. not-goes _ (sym e);
      goes = λ e. subst (λ (w : List ℕ). length new.waiting < length w) (sym is) (subst (λ (w : List ℕ). length w < length (packet body ++ rest)) (sym left) (shorter-by (packet body) rest (some-bytes body)));
    }

pub message-answered : (source : Source) (old new : Dialogue) (kind : ℕ) (body rest : List ℕ) → is_starting old.at.phase ≡ false → old.waiting ≡ frame kind body ++ rest → new.waiting ≡ rest → SameStreams old new
    → TakesMessage source kind body (talking old.at old.out) taken.Answered (talking new.at new.out) → Steps source old true new
message-answered source old new kind body rest starting is left same t =
    let one : frame (messages.kind_of t.0) (messages.body_of t.0) ≡ frame kind body = ap (λ (k : ℕ). frame k (messages.body_of t.0)) t.2 ∙ ap (λ (b : List ℕ). frame kind b) t.3 in
    let bytes : old.waiting ≡ frame (messages.kind_of t.0) (messages.body_of t.0) ++ new.waiting = is ∙ ap (λ (f : List ℕ). f ++ rest) (sym one) ∙ ap (λ (r : List ℕ). frame (messages.kind_of t.0) (messages.body_of t.0) ++ r) (sym left) in
    record {
      answers = one-answered source old new (message_of t.0) (written t.4.0) bytes (starting, t.1, t.4.0, t.4.1, refl) t.4.2 same;
      settles = λ e. not-goes _ (sym e);
      goes = λ e. subst (λ (w : List ℕ). length new.waiting < length w) (sym is) (subst (λ (w : List ℕ). length w < length (frame kind body ++ rest)) (sym left) (shorter kind (word (length body + 4) ++ body) rest));
    }

-- ---- by what was read

as-partial : (old : Dialogue) (bytes : List ℕ) → old.at.phase ≡ phase.Starting → bytes ≡ old.waiting → (BeginsPacket bytes → ⊥) → IsPartial (is_starting old.at.phase) old.waiting
as-partial old bytes starting is none =
    let one : IsPartial true old.waiting = subst (λ (t : List ℕ). BeginsPacket t → ⊥) is none in
    subst (λ (b : Bool). IsPartial b old.waiting) (sym (ap is_starting starting)) one

pub packet-cuts : (source : Source) (old new : Dialogue) (bytes : List ℕ) → old.at.phase ≡ phase.Starting → bytes ≡ old.waiting → (BeginsPacket bytes → ⊥) → new ≡ after_cut old → Steps source old false new
packet-cuts source old new bytes starting is none after = cuts source old new (as-partial old bytes starting is none) after

pub packet-violates : (source : Source) (old new : Dialogue) (bytes : List ℕ) → old.at.phase ≡ phase.Starting → bytes ≡ old.waiting → ((more : List ℕ) → BeginsPacket (bytes ++ more) → ⊥) → Violates old new → Steps source old false new
packet-violates source old new bytes starting is none v =
    let one : IsUnreadable true old.waiting = inl (subst (λ (t : List ℕ). (more : List ℕ) → BeginsPacket (t ++ more) → ⊥) is none) in
    violates source old new (subst (λ (b : Bool). IsUnreadable b old.waiting) (sym (ap is_starting starting)) one) v

pub packet-unreadable : (source : Source) (old : Dialogue) (k : Talking) (new : Dialogue) (bytes body rest : List ℕ) → old.at.phase ≡ phase.Starting → bytes ≡ old.waiting → bytes ≡ packet body ++ rest → IsNoPacket body
    → k ≡ talking old.at old.out → Violates (record old { at = k.at; out = k.out }) new → Steps source old false new
packet-unreadable source old k new bytes body rest starting is split none same v =
    let one : IsUnreadable true old.waiting = inr (body, rest, sym is ∙ split, none) in
    violates source old new (subst (λ (b : Bool). IsUnreadable b old.waiting) (sym (ap is_starting starting)) one) (subst (λ (t : Talking). Violates (record old { at = t.at; out = t.out }) new) same v)

pub message-cuts : (source : Source) (old new : Dialogue) (bytes : List ℕ) → is_starting old.at.phase ≡ false → bytes ≡ old.waiting → (Begins bytes → ⊥) → new ≡ after_cut old → Steps source old false new
message-cuts source old new bytes starting is none after =
    let one : IsPartial false old.waiting = subst (λ (t : List ℕ). Begins t → ⊥) is none in
    cuts source old new (subst (λ (b : Bool). IsPartial b old.waiting) (sym starting) one) after

pub message-violates : (source : Source) (old new : Dialogue) (bytes : List ℕ) → is_starting old.at.phase ≡ false → bytes ≡ old.waiting → ((more : List ℕ) → Begins (bytes ++ more) → ⊥) → Violates old new → Steps source old false new
message-violates source old new bytes starting is none v =
    let one : IsUnreadable false old.waiting = inl (subst (λ (t : List ℕ). (more : List ℕ) → Begins (t ++ more) → ⊥) is none) in
    violates source old new (subst (λ (b : Bool). IsUnreadable b old.waiting) (sym starting) one) v

pub message-unreadable : (source : Source) (old : Dialogue) (k : Talking) (new : Dialogue) (bytes : List ℕ) (kind : ℕ) (body rest : List ℕ) → is_starting old.at.phase ≡ false → bytes ≡ old.waiting → bytes ≡ frame kind body ++ rest
    → IsNoMessage kind body → k ≡ talking old.at old.out → Violates (record old { at = k.at; out = k.out }) new → Steps source old false new
message-unreadable source old k new bytes kind body rest starting is split none same v =
    let one : IsUnreadable false old.waiting = inr (kind, body, rest, sym is ∙ split, none) in
    violates source old new (subst (λ (b : Bool). IsUnreadable b old.waiting) (sym starting) one) (subst (λ (t : Talking). Violates (record old { at = t.at; out = t.out }) new) same v)

-- the bytes that are left of the input
pub slice_left : (n : ℕ) (input slice : List ℕ) → slice ≡ input → take (length slice - n) (drop n slice) ≡ drop n input
slice_left n input slice is = take_rest slice n ∙ ap (λ (t : List ℕ). drop n t) is
