-- A file that goes on behind its end.
use Rattle.std.proofs.Common.{◌≡◌, ℕ, List, [], ◌++◌, length, drop, sym, ◌∙◌, ap, arith, length-append, length-drop}
use Rattle.std.proofs.lemmas.List.{append-nil, drop_all}
use Rattle.sqlite_disk.specs.Disk.{Torn, Cut}
use Rattle.sb_durable.specs.Segment.{Extends}
use Rattle.sb_durable.proofs.Torn.{torn_front, cut_front}

-- a write at the end leaves some bytes behind it
pub extends_torn : (old new : List ℕ) (end n : ℕ) → end ≡ length old → Torn end n old new → Extends n old new
extends_torn old new end n here torn = record {
  rest = drop (length old) new;
  small = omega (arith, here, torn.no_longer, length-drop (length old) new);
  whole = torn_front old old [] new end n (sym (append-nil old)) (omega (arith, here)) torn;
}

-- so does a cut at that end
pub extends_cut : (old mid new : List ℕ) (end n : ℕ) → end ≡ length old → Extends n old mid → Cut end mid new → Extends n old new
extends_cut old mid new end n here extends cut = record {
  rest = drop (length old) new;
  small = omega (arith, here, cut.no_longer, extends.small, ap length extends.whole, length-append old extends.rest, length-drop (length old) new);
  whole = cut_front mid old extends.rest new end extends.whole (omega (arith, here)) cut;
}

-- behind which nothing is left
pub cut_back : (old mid new : List ℕ) (end n : ℕ) → end ≡ length old → Extends n old mid → Cut end mid new → length new ≡ end → new ≡ old
cut_back old mid new end n here extends cut size =
    cut_front mid old extends.rest new end extends.whole (omega (arith, here)) cut
    ∙ ap (λ (l : List ℕ). old ++ l) (drop_all (length old) new (omega (arith, here, size)))
    ∙ append-nil old
