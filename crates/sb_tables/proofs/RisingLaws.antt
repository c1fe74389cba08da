-- Rising numbers: places among them, and one more or one less at the end.
use Rattle.std.proofs.Common.{◌≡◌, ℕ, zero, suc, ◌+◌, ◌<◌, ◌≤◌, List, [], ◌∷◌, ◌++◌, length, take, drop, get_or, arith}
use Rattle.sb_tables.specs.Rising.{Rises, AllBelow, AllFrom}

pub rises_ends : (low : ℕ) (ns : List ℕ) (high : ℕ) → Rises low ns high → low ≤ high
rises_ends low [] high h = h
rises_ends low (n ∷ ns) high h = let a : low ≤ n = h.0 in let b : n + 1 ≤ high = rises_ends (n + 1) ns high h.1 in omega arith

pub rises_at : (low : ℕ) (ns : List ℕ) (high i d : ℕ) → Rises low ns high → i < length ns → low ≤ get_or ns i d
rises_at low [] high i d h lt = absurd (omega arith)
rises_at low (n ∷ ns) high zero d h lt = h.0
rises_at low (n ∷ ns) high (suc j) d h lt =
    let a : low ≤ n = h.0 in let b : n + 1 ≤ get_or ns j d = rises_at (n + 1) ns high j d h.1 (omega arith) in omega arith

-- where the number at a place is below n, those up to there are
pub below_to : (low : ℕ) (ns : List ℕ) (high n i : ℕ) → Rises low ns high → i < length ns → get_or ns i 0 < n → AllBelow n (take (suc i) ns)
below_to low [] high n i h lt b = absurd (omega arith)
below_to low (m ∷ ns) high n zero h lt b = (b, tt)
below_to low (m ∷ ns) high n (suc j) h lt b =
    let a : m + 1 ≤ get_or ns j 0 = rises_at (m + 1) ns high j 0 h.1 (omega arith) in
    (omega arith, below_to (m + 1) ns high n j h.1 (omega arith) b)

all_from : (low : ℕ) (ns : List ℕ) (high n : ℕ) → Rises low ns high → n ≤ low → AllFrom n ns
all_from low [] high n h le = tt
all_from low (m ∷ ns) high n h le = let a : low ≤ m = h.0 in (omega arith, all_from (m + 1) ns high n h.1 (omega arith))

-- where the number at a place isn't below n, those from there on aren't
pub from_on : (low : ℕ) (ns : List ℕ) (high n i : ℕ) → Rises low ns high → i < length ns → n ≤ get_or ns i 0 → AllFrom n (drop i ns)
from_on low [] high n i h lt b = absurd (omega arith)
from_on low (m ∷ ns) high n zero h lt b = (b, all_from (m + 1) ns high n h.1 (omega arith))
from_on low (m ∷ ns) high n (suc j) h lt b = from_on (m + 1) ns high n j h.1 (omega arith) b

-- a number that is there stands at the first place from it
pub found : (low : ℕ) (ns : List ℕ) (high n i k : ℕ) → Rises low ns high → AllBelow n (take i ns) → AllFrom n (drop i ns) → k < length ns → get_or ns k n ≡ n → (i < length ns) × (get_or ns i 0 ≡ n)
found low [] high n i k h b f lt e = absurd (omega arith)
found low (m ∷ ns) high n zero zero h b f lt e = (omega arith, e)
found low (m ∷ ns) high n zero (suc k) h b f lt e =
    let a : n ≤ m = f.0 in let c : m + 1 ≤ get_or ns k n = rises_at (m + 1) ns high k n h.1 (omega arith) in absurd (omega arith)
found low (m ∷ ns) high n (suc i) zero h b f lt e = let a : m < n = b.0 in absurd (omega arith)
found low (m ∷ ns) high n (suc i) (suc k) h b f lt e =
    let r = found (m + 1) ns high n i k h.1 b.1 f (omega arith) e in let a : i < length ns = r.0 in (omega arith, r.1)

pub rises_push : (low : ℕ) (ns : List ℕ) (high : ℕ) → Rises low ns high → Rises low (ns ++ high ∷ []) (high + 1)
rises_push low [] high h = (h, omega arith)
rises_push low (n ∷ ns) high h = (h.0, rises_push (n + 1) ns high h.1)

pub rises_front : (low : ℕ) (ns : List ℕ) (n high : ℕ) → Rises low (ns ++ n ∷ []) high → Rises low ns n × (n < high)
rises_front low [] n high h = let a : n + 1 ≤ high = h.1 in (h.0, omega arith)
rises_front low (m ∷ ns) n high h = let r = rises_front (m + 1) ns n high h.1 in ((h.0, r.0), r.1)

pub rises_lower : (low lower : ℕ) (ns : List ℕ) (high : ℕ) → lower ≤ low → Rises low ns high → Rises lower ns high
rises_lower low lower [] high le h = omega arith
rises_lower low lower (n ∷ ns) high le h = let a : low ≤ n = h.0 in (omega arith, h.1)

-- the numbers in front of a place are below the one there
pub below_before : (low : ℕ) (ns : List ℕ) (high i : ℕ) → Rises low ns high → i < length ns → AllBelow (get_or ns i 0) (take i ns)
below_before low [] high i h lt = absurd (omega arith)
below_before low (n ∷ ns) high zero h lt = tt
below_before low (n ∷ ns) high (suc i) h lt =
    let a : n + 1 ≤ get_or ns i 0 = rises_at (n + 1) ns high i 0 h.1 (omega arith) in (omega arith, below_before (n + 1) ns high i h.1 (omega arith))
