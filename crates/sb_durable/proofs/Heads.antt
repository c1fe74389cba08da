-- Heads that are read.
use Rattle.std.proofs.Common.{◌≡◌, ◌≢◌, ℕ, ◌+◌, ◌<◌, ◌≤◌, ◌^◌, List, [], ◌∷◌, ◌++◌, length, get_or, drop, refl, sym, ◌∙◌, ap, subst, inl, inr, arith, length-append, append_assoc}
use Rattle.std.specs.Int.{w32, w64, to_be_bytes}
use Rattle.sqlite_disk.specs.Disk.{Holds}
use Rattle.sb_durable.specs.SegmentBlocks.{IsOpen}
use Rattle.sb_durable.specs.Head.{Head, IsHead, IsHeadCut, IsCutHead, IsOpened, IsUnbegun, head_text, head_bytes, head_digest, mark}
use Rattle.sb_durable.proofs.Finding.{held_front}
use Rattle.sb_durable.proofs.SegmentReading.{same_parts, same_word, same_number, one_head, same_opened}

-- behind the gate
pub length-head : (head : Head) → length (head_bytes head) ≡ 35 + length head.settings
length-head head = omega (arith, length-append head.settings (to_be_bytes w64 (head_digest head)))

-- a gate that is read, and the mark behind it
marked : (file gate found : List ℕ) → Holds file 0 gate → length gate ≡ 1 → Holds file 1 found → found ≡ mark → file ≡ get_or gate 0 0 ∷ (mark ++ drop 8 file)
marked file [] found holds one behind is = absurd (omega (arith, one))
marked file (g ∷ []) found holds one behind is =
    held_front file (g ∷ []) 0 holds
    ∙ ap (λ (l : List ℕ). g ∷ l) (held_front file found 1 behind ∙ ap (λ (l : List ℕ). l ++ drop (1 + length l) file) is)
marked file (g ∷ h ∷ gate) found holds one behind is = absurd (omega (arith, one))

pub unbegun : (file gate found : List ℕ) → Holds file 0 gate → length gate ≡ 1 → Holds file 1 found → found ≡ mark → get_or gate 0 0 ≡ 0 → IsUnbegun file
unbegun file gate found holds one behind is shut =
    inr (record { rest = drop 8 file; whole = marked file gate found holds one behind is ∙ ap (λ (g : ℕ). g ∷ (mark ++ drop 8 file)) shut })

pub begun : (file gate found : List ℕ) → Holds file 0 gate → length gate ≡ 1 → Holds file 1 found → found ≡ mark → IsOpen (get_or gate 0 0) → IsOpened (mark ++ drop 8 file) file
begun file gate found holds one behind is opened = record { gate = get_or gate 0 0; opened = opened; whole = marked file gate found holds one behind is }

-- the parts of a head that are read one after the other
pub head_there : (file settings : List ℕ) (number before size own : ℕ) → IsOpened (mark ++ drop 8 file) file → drop 8 file ≡ to_be_bytes w64 number ++ drop 16 file → drop 16 file ≡ to_be_bytes w64 before ++ drop 24 file
    → drop 24 file ≡ to_be_bytes w32 size ++ drop 28 file → length settings ≡ size → drop 28 file ≡ settings ++ drop (28 + size) file → drop (28 + size) file ≡ to_be_bytes w64 own ++ drop (28 + size + 8) file
    → IsOpened (head_text (record { number = number; before = before; settings = settings }) ++ (to_be_bytes w64 own ++ drop (28 + size + 8) file)) file
head_there file settings number before size own begins numbers befores sizes long texts owns =
    let rest = to_be_bytes w64 own ++ drop (28 + size + 8) file in
    record {
      gate = begins.gate;
      opened = begins.opened;
      whole =
          begins.whole
          ∙ ap (λ (l : List ℕ). begins.gate ∷ (mark ++ l)) numbers
          ∙ ap (λ (l : List ℕ). begins.gate ∷ (mark ++ (to_be_bytes w64 number ++ l))) befores
          ∙ ap (λ (l : List ℕ). begins.gate ∷ (mark ++ (to_be_bytes w64 number ++ (to_be_bytes w64 before ++ l)))) sizes
          ∙ ap (λ (l : List ℕ). begins.gate ∷ (mark ++ (to_be_bytes w64 number ++ (to_be_bytes w64 before ++ (to_be_bytes w32 size ++ l))))) (texts ∙ ap (λ (l : List ℕ). settings ++ l) owns)
          ∙ ap (λ (n : ℕ). begins.gate ∷ (mark ++ (to_be_bytes w64 number ++ (to_be_bytes w64 before ++ (to_be_bytes w32 n ++ (settings ++ rest)))))) (sym long);
    }

pub whole_head : (file rest : List ℕ) (head : Head) (own : ℕ) → own ≡ head_digest head → IsOpened (head_text head ++ (to_be_bytes w64 own ++ rest)) file → IsOpened (head_bytes head ++ rest) file
whole_head file rest head own owned begins = record {
  gate = begins.gate;
  opened = begins.opened;
  whole =
      begins.whole
      ∙ ap (λ (n : ℕ). begins.gate ∷ (head_text head ++ (to_be_bytes w64 n ++ rest))) owned
      ∙ ap (λ (l : List ℕ). begins.gate ∷ l) (sym (append_assoc (head_text head) (to_be_bytes w64 (head_digest head)) rest));
}

-- a digest that the head hasn't
pub no_other_head : (file rest tail behind : List ℕ) (head other : Head) (own found : ℕ) → IsHead head → IsHead other → own < 2 ^ 64 → found < 2 ^ 64 → found ≡ head_digest head → found ≢ own
    → IsOpened (head_text head ++ (to_be_bytes w64 own ++ rest)) file → IsOpened (head_bytes other ++ behind) (file ++ tail) → ⊥
no_other_head file rest tail behind head other own found fits other_fits own_fits found_fits owned differ is there =
    let same : (head_text head ++ (to_be_bytes w64 own ++ rest)) ++ tail ≡ head_bytes other ++ behind = ap (λ (l : List ℕ). drop 1 l) (ap (λ (l : List ℕ). l ++ tail) (sym is.whole) ∙ there.whole) in
    let texts = one_head head other (to_be_bytes w64 own ++ (rest ++ tail)) (to_be_bytes w64 (head_digest other) ++ behind) fits other_fits
    (sym (append_assoc (head_text head) (to_be_bytes w64 own ++ rest) tail) ∙ same ∙ append_assoc (head_text other) (to_be_bytes w64 (head_digest other)) behind) in
    let owns = same_parts (to_be_bytes w64 own) (to_be_bytes w64 (head_digest other)) (rest ++ tail) behind refl texts.1 in
    let here : found ≡ head_digest other = owned ∙ ap (λ (h : Head). head_digest h) texts.0 in
    differ (sym (same_number own found own_fits found_fits (owns.0 ∙ ap (λ (n : ℕ). to_be_bytes w64 n) (sym here))))

-- what is read of a file that stays the same
pub moved : (file later bytes : List ℕ) (at end : ℕ) → later ≡ file → drop at later ≡ bytes ++ drop end later → drop at file ≡ bytes ++ drop end file
moved file later bytes at end same is = subst (λ (f : List ℕ). drop at f ≡ bytes ++ drop end f) same is

-- a head that is cut short before its settings, or within them
pub cut_before : (file : List ℕ) → IsOpened (mark ++ drop 8 file) file → length file < 28 → IsCutHead file
cut_before file is short = record { rest = drop 8 file; cut = inl (omega (arith, ap length is.whole, short)); begins = is }

pub cut_within : (file : List ℕ) (number before size : ℕ) → IsOpened (mark ++ drop 8 file) file → drop 8 file ≡ to_be_bytes w64 number ++ drop 16 file → drop 16 file ≡ to_be_bytes w64 before ++ drop 24 file
    → drop 24 file ≡ to_be_bytes w32 size ++ drop 28 file → size ≤ 4096 → length (drop 28 file) < size + 8 → IsCutHead file
cut_within file number before size is numbers befores sizes small less =
    let parts = numbers ∙ ap (λ (l : List ℕ). to_be_bytes w64 number ++ l) (befores ∙ ap (λ (l : List ℕ). to_be_bytes w64 before ++ l) sizes) in
    record { rest = drop 8 file; cut = inr (number, before, size, drop 28 file, small, less, parts); begins = is }

no_head_cut : (head : Head) (rest behind : List ℕ) → IsHead head → IsHeadCut rest → rest ≡ to_be_bytes w64 head.number ++ (to_be_bytes w64 head.before ++ (to_be_bytes w32 (length head.settings) ++ (head.settings ++ behind))) → 8 ≤ length behind → ⊥
no_head_cut head rest behind fits (inl short) is long = absurd (omega (arith, short, ap length is))
no_head_cut head rest behind fits (inr (number, before, size, cut, small, less, there)) is long =
    let numbers = same_parts (to_be_bytes w64 number) (to_be_bytes w64 head.number) _ _ refl (sym there ∙ is) in
    let befores = same_parts (to_be_bytes w64 before) (to_be_bytes w64 head.before) _ _ refl numbers.1 in
    let sizes = same_parts (to_be_bytes w32 size) (to_be_bytes w32 (length head.settings)) cut (head.settings ++ behind) refl befores.1 in
    let same = same_word size (length head.settings) (omega (arith, small)) (omega (arith, fits.2)) sizes.0 in
    absurd (omega (arith, same, less, long, ap length sizes.1, length-append head.settings behind))

-- a file with a whole head has begun
pub has_begun : (head : Head) (rest file : List ℕ) → IsHead head → IsOpened (head_bytes head ++ rest) file → IsUnbegun file → ⊥
has_begun head rest file fits is (inl short) = absurd (omega (arith, short, ap length is.whole, length-append (head_bytes head) rest, length-head head))
has_begun head rest file fits is (inr shut) = is.opened (ap (λ (l : List ℕ). get_or l 0 0) (sym is.whole ∙ shut.whole))

-- nor does it end within its head
pub not_cut : (head : Head) (rest file : List ℕ) → IsHead head → IsOpened (head_bytes head ++ rest) file → IsCutHead file → ⊥
not_cut head rest file fits is short =
    let own = to_be_bytes w64 (head_digest head) ++ rest in
    no_head_cut head short.rest own fits short.cut
    (ap (λ (l : List ℕ). drop 7 l) (same_opened _ _ file short.begins is ∙ append_assoc (head_text head) (to_be_bytes w64 (head_digest head)) rest))
    (omega (arith, length-append (to_be_bytes w64 (head_digest head)) rest))
