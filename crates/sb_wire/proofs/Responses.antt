-- Lines answered one after another, and the text that is written.
use Rattle.std.proofs.Common.{◌≡◌, ◌∙◌, ◌<◌, sym, ap, subst, refl, ◌++◌, ◌∷◌, [], List, ℕ, Bool, false, length, append_assoc, append-nil, Option, arith}
use Rattle.std.proofs.lemmas.List.{length-append}
use Rattle.std.specs.Io.KnownBytes.{Appends}
use Rattle.std.proofs.KnownBytes.{Appends-nil, Appends-trans}
use Rattle.sb_wire.specs.Lines.{Completes, Piece, line}
use Rattle.sb_wire.specs.Responses.{Answering, AnswersBytes, AnswersLines, AreAnswered}
use Rattle.sb_wire.proofs.Streams.{completes-nothing, completes-then}

-- some lines and next others
answered_then : {State : Type 0} (responds : Answering State) (over : State → Bool) (a b c : State) (ps qs : List Piece) (text more : List ℕ) → AreAnswered responds over a ps text b → AreAnswered responds over b qs more c → AreAnswered responds over a (ps ++ qs) (text ++ more) c
answered_then {State} responds over a b c [] qs text more (none, same) others =
    subst (λ (t : List ℕ). AreAnswered responds over a qs t c) (ap (λ (t : List ℕ). t ++ more) (sym none)) (subst (λ (s : State). AreAnswered responds over s qs more c) same others)
answered_then responds over a b c (p ∷ ps) qs text more (first, rest, mid, is, going, own, first-others) others =
    (first, rest ++ more, mid, ap (λ (t : List ℕ). t ++ more) is ∙ append_assoc first rest more, going, own, answered_then responds over mid b c ps qs rest more first-others others)

module _ {State : Type 0} {responds : Answering State} {over : State → Bool} {a b c : State} {h0 h1 h2 : Option (List ℕ)} {waiting mid left : List ℕ} where
  pub lines_then : (ps qs : List Piece) → AnswersLines responds over a h0 waiting ps b h1 mid → AnswersLines responds over b h1 mid qs c h2 left → AnswersLines responds over a h0 waiting (ps ++ qs) c h2 left
  lines_then ps qs one two = record {
    text = one.text ++ two.text;
    answered = answered_then responds over a b c ps qs one.text two.text one.answered two.answered;
    written = one.written ++ two.written;
    whole =
        sym (append_assoc waiting one.text two.text) ∙ ap (λ (t : List ℕ). t ++ two.text) one.whole ∙ append_assoc one.written mid two.text
        ∙ ap (λ (t : List ℕ). one.written ++ t) two.whole ∙ sym (append_assoc one.written two.written left);
    appends = Appends-trans h0 h1 h2 one.written two.written one.appends two.appends;
  }

  -- the lines that more of the bytes complete
  pub bytes_more : {kept : List ℕ} {start opened : Piece} {bytes rest : List ℕ} (t : AnswersBytes responds over a h0 waiting start bytes b h1 mid) (u : AnswersBytes responds over b h1 mid opened rest c h2 left)
      → t.ahead ≡ rest → t.opened ≡ opened → left ≡ kept → (all : AnswersBytes responds over a h0 waiting start bytes c h2 kept) × (all.ahead ≡ u.ahead) × (all.opened ≡ u.opened)
  bytes_more {start = start} t u ahead is_open is_kept = (
    record {
      taken = t.taken ++ u.taken;
      ahead = u.ahead;
      split = t.split ∙ ap (λ (x : List ℕ). t.taken ++ x) (ahead ∙ u.split) ∙ sym (append_assoc t.taken u.taken u.ahead);
      pieces = t.pieces ++ u.pieces;
      opened = u.opened;
      completes = completes-then start t.opened u.opened t.taken u.taken t.pieces u.pieces t.completes (subst (λ (p : Piece). Completes p u.taken u.pieces u.opened) (sym is_open) u.completes);
      lines = subst (λ (k : List ℕ). AnswersLines responds over a h0 waiting (t.pieces ++ u.pieces) c h2 k) is_kept (lines_then t.pieces u.pieces t.lines u.lines);
    },
    refl,
    refl,
  )

module _ {State : Type 0} {responds : Answering State} {over : State → Bool} {a b : State} {h0 h1 : Option (List ℕ)} {waiting mid : List ℕ} where
  -- the same lines
  pub lines_as : {ps qs : List Piece} → ps ≡ qs → AnswersLines responds over a h0 waiting ps b h1 mid → AnswersLines responds over a h0 waiting qs b h1 mid
  lines_as is lines = subst (λ (ps : List Piece). AnswersLines responds over a h0 waiting ps b h1 mid) is lines

  -- and then a first part of what waits is written
  pub lines_sent : {ps : List Piece} → AnswersLines responds over a h0 waiting ps b h1 mid → (h2 : Option (List ℕ)) (written left : List ℕ) → mid ≡ written ++ left → Appends h1 h2 written → AnswersLines responds over a h0 waiting ps b h2 left
  lines_sent lines h2 written left is appends = record {
    text = lines.text;
    answered = lines.answered;
    written = lines.written ++ written;
    whole = lines.whole ∙ ap (λ (t : List ℕ). lines.written ++ t) is ∙ sym (append_assoc lines.written written left);
    appends = Appends-trans h0 h1 h2 lines.written written lines.appends appends;
  }

  pub bytes_sent : {start : Piece} {bytes : List ℕ} (t : AnswersBytes responds over a h0 waiting start bytes b h1 mid) (h2 : Option (List ℕ)) (written left : List ℕ) → mid ≡ written ++ left → Appends h1 h2 written
      → (u : AnswersBytes responds over a h0 waiting start bytes b h2 left) × (u.ahead ≡ t.ahead) × (u.opened ≡ t.opened)
  bytes_sent t h2 written left is appends =
      (record { taken = t.taken; ahead = t.ahead; split = t.split; pieces = t.pieces; opened = t.opened; completes = t.completes; lines = lines_sent t.lines h2 written left is appends }, refl, refl)

  -- a line that a first part of the bytes completes
  pub bytes_line : {start p q : Piece} {bytes taken : List ℕ} (ahead : List ℕ) → bytes ≡ taken ++ ahead → Completes start taken (q ∷ []) (line []) → p ≡ q → AnswersLines responds over a h0 waiting (p ∷ []) b h1 mid
      → (t : AnswersBytes responds over a h0 waiting start bytes b h1 mid) × (t.ahead ≡ ahead) × (t.opened ≡ line []) × (0 < length taken → length ahead < length bytes)
  bytes_line {q = q} {taken = taken} ahead split completes is lines = (
    record { taken = taken; ahead = ahead; split = split; pieces = q ∷ []; opened = line []; completes = completes; lines = lines_as (ap (λ (x : Piece). x ∷ []) is) lines },
    refl,
    refl,
    λ some. omega (arith, simp length-append at (ap length split), some),
  )

module _ {State : Type 0} (responds : Answering State) (over : State → Bool) where
  -- nothing at all
  pub lines_none : (a : State) (h : Option (List ℕ)) (waiting : List ℕ) → AnswersLines responds over a h waiting [] a h waiting
  lines_none a h waiting = record { text = []; answered = (refl, refl); written = []; whole = append-nil waiting; appends = Appends-nil h }

  module _ (a b : State) (p : Piece) (own : List ℕ) (going : over a ≡ false) (answers : responds a p own b) where
    -- one line, and nothing is written
    pub lines_one : (h : Option (List ℕ)) (waiting : List ℕ) → AnswersLines responds over a h waiting (p ∷ []) b h (waiting ++ own)
    lines_one h waiting = record { text = own; answered = (own, [], b, sym (append-nil own), going, answers, (refl, refl)); written = []; whole = refl; appends = Appends-nil h }

    -- one line whose text found no room; what waited is written before it
    pub lines_early : (h0 h1 : Option (List ℕ)) (waiting written left : List ℕ) → waiting ≡ written ++ left → Appends h0 h1 written → AnswersLines responds over a h0 waiting (p ∷ []) b h1 (left ++ own)
    lines_early h0 h1 waiting written left is appends = lines_then [] (p ∷ []) (lines_sent (lines_none a h0 waiting) h1 written left is appends) (lines_one h1 left)

  -- none of the bytes yet
  pub bytes_none : (a : State) (h : Option (List ℕ)) (waiting : List ℕ) (start : Piece) (bytes : List ℕ)
      → (u : AnswersBytes responds over a h waiting start bytes a h waiting) × (u.ahead ≡ bytes) × (u.opened ≡ start)
  bytes_none a h waiting start bytes =
      (record { taken = []; ahead = bytes; split = refl; pieces = []; opened = start; completes = completes-nothing start; lines = lines_none a h waiting }, refl, refl)
