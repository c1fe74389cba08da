-- A write leaves the bytes around it as they were.
use Rattle.std.proofs.Common.{◌≡◌, ℕ, suc, ◌+◌, ◌-◌, ◌<◌, ◌≤◌, List, [], ◌∷◌, ◌++◌, length, get_or, take, drop, refl, sym, ◌∙◌, ap, inl, inr, arith, length-append, length-drop, append_assoc, take-append-drop, ext_get_or, length-take-le, get_or-take, get_or-drop}
use Rattle.std.proofs.lemmas.Bool.{cases_lt}
use Rattle.std.proofs.lemmas.List.{drop_more, drop_at, get_or_append_left, get_or-append_right}
use Rattle.sqlite_disk.specs.Disk.{Holds, Torn, Cut}

-- two files of which the second has the first n bytes of the first
pub same_front : (front rest new : List ℕ) → length front ≤ length new → ((i : ℕ) → i < length front → get_or new i 0 ≡ get_or (front ++ rest) i 0) → new ≡ front ++ drop (length front) new
same_front front rest new long same =
    let size = length-take-le (length front) new long in
    let fronts : take (length front) new ≡ front =
    ext_get_or 0 _ _ size λ i h.
    let low : i < length front = omega (arith, h, size) in
    get_or-take (length front) new i 0 low ∙ same i low ∙ get_or_append_left front rest 0 i low in
    sym (take-append-drop (length front) new) ∙ ap (λ (l : List ℕ). l ++ drop (length front) new) fronts

-- what lies before a write stays
pub torn_front : (old front rest new : List ℕ) (at n : ℕ) → old ≡ front ++ rest → length front ≤ at → Torn at n old new → new ≡ front ++ drop (length front) new
torn_front old front rest new at n is low torn =
    let size : length old ≡ length front + length rest = ap length is ∙ length-append front rest in
    same_front front rest new (omega (arith, torn.no_shorter, size)) λ i below.
    torn.below i (omega (arith, below, size)) (omega (arith, below, low)) ∙ ap (λ (l : List ℕ). get_or l i 0) is

-- and what lies before the end of a cut
pub cut_front : (old front rest new : List ℕ) (n : ℕ) → old ≡ front ++ rest → length front ≤ n → Cut n old new → new ≡ front ++ drop (length front) new
cut_front old front rest new n is low cut =
    let size : length old ≡ length front + length rest = ap length is ∙ length-append front rest in
    same_front front rest new (omega (arith, cut.no_shorter, size, low)) λ i below.
    cut.below i (omega (arith, below, size)) (omega (arith, below, low)) ∙ ap (λ (l : List ℕ). get_or l i 0) is

-- what lies behind a write stays
torn_back : (old new : List ℕ) (at n : ℕ) → Torn at n old new → at + n ≤ length old → drop (at + n) new ≡ drop (at + n) old
torn_back old new at n torn within =
    ext_get_or 0 _ _ (omega (arith, length-drop (at + n) new, length-drop (at + n) old, torn.no_shorter, torn.no_longer, within)) λ i h.
    get_or-drop (at + n) new i 0 ∙ torn.above (at + n + i) (omega (arith, h, length-drop (at + n) new, torn.no_shorter, torn.no_longer, within)) (omega arith) ∙ sym (get_or-drop (at + n) old i 0)

-- a torn write of one byte changes that byte alone
pub torn_byte : (old front rest new : List ℕ) (byte : ℕ) → old ≡ front ++ byte ∷ rest → Torn (length front) 1 old new → new ≡ front ++ get_or new (length front) 0 ∷ rest
torn_byte old front rest new byte is torn =
    let size : length old ≡ length front + suc (length rest) = ap length is ∙ length-append front (byte ∷ rest) in
    let behind : drop (length front + 1) old ≡ rest =
    ap (λ (l : List ℕ). drop (length front + 1) l) (is ∙ sym (append_assoc front (byte ∷ []) rest)) ∙ drop_at (front ++ byte ∷ []) rest (length front + 1) (length-append front (byte ∷ [])) in
    let back = torn_back old new (length front) 1 torn (omega (arith, size)) in
    torn_front old front (byte ∷ rest) new (length front) 1 is (omega arith) torn
    ∙ ap (λ (l : List ℕ). front ++ l) (drop_more new (length front) 0 (omega (arith, size, torn.no_shorter)) ∙ ap (λ (l : List ℕ). get_or new (length front) 0 ∷ l) (back ∙ behind))

-- a write at the end of a file
pub written_behind : (old bytes new : List ℕ) → Torn (length old) (length bytes) old new → Holds new (length old) bytes → new ≡ old ++ bytes
written_behind old bytes new torn holds =
    ext_get_or 0 _ _ (omega (arith, holds.within, torn.no_longer, length-append old bytes)) λ i h.
    elim (cases_lt i (length old)) [
      | inl low ↦ torn.below i low low ∙ sym (get_or_append_left old bytes 0 i low)
      | inr high ↦
          let here : length old + (i - length old) ≡ i = omega (arith, high) in
          ap (λ (k : ℕ). get_or new k 0) (sym here) ∙ holds.each (i - length old) (omega (arith, h, high, holds.within, torn.no_longer)) ∙ sym (get_or-append_right old bytes (length old) i 0 refl high)
    ]
