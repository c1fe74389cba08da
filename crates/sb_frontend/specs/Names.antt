-- Promise: things by name.
use Rattle.std.specs.Prelude.{ℕ, Bool, not, ◌||◌, ◌==◌, if◌then◌else◌, nat_le, List, [], ◌∷◌, ◌++◌, length, map, filter, Option, Some, None, is_some, Result, Ok, Err, Vec}
use Rattle.std.specs.Global.{Global}
use Rattle.std.specs.Str.{bytes_eq}
use Rattle.sb_frontend.specs.declared.denial.Denial.{Denial}
use Rattle.sb_frontend.specs.declared.denial.Denial.TheVariants.{TooMany}

-- names, and what stands behind each
abbrev pub Named : Type 0 → Type 0
Named X = List (List ℕ × X)

-- without where they lie in memory
abbrev pub seen : {X : Type 0} → List (Vec ℕ Global × X) → Named X
seen es = map (λ e. (e.0.items, e.1)) es

abbrev pub named : {X : Type 0} → List ℕ → Named X → Option X
named name [] = None
named name (n ∷ ns) = if bytes_eq n.0 name then Some n.1 else named name ns

abbrev pub without : {X : Type 0} → List ℕ → Named X → Named X
without name ns = filter (λ n. not (bytes_eq n.0 name)) ns

abbrev pub with : {X : Type 0} → List ℕ → X → Named X → Named X
with name x ns = without name ns ++ (name, x) ∷ []

-- the name without a byte is the unnamed one's, which is replaced; any other name has to be free
abbrev pub is_free : {X : Type 0} → List ℕ → Named X → Bool
is_free name ns = length name == 0 || not (is_some (named name ns))

-- so many there may be
abbrev pub name_limit : ℕ
name_limit = 256

-- one more, or why there is none
abbrev pub stored : {X : Type 0} → List ℕ → X → Denial → Named X → Result (Named X) Denial
stored name x exists ns = if is_free name ns then (if nat_le name_limit (length ns) then Err TooMany else Ok (with name x ns)) else Err exists
