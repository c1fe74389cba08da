-- What a list has read is what the reader of a list reads.
use Rattle.std.proofs.Common.{Bool, true, false, ◌&&◌, nat_lt, ◌++◌, ◌≡◌, ◌≤◌, ◌<◌, ◌-◌, ℕ, suc, List, [], ◌∷◌, map, length, length-append, Option, Some, None, Result, Ok, Err, ap, sym, ◌∙◌, refl, subst, arith}
use Rattle.std.proofs.lemmas.Bool.{ltb-true, ltb-false}
use Rattle.std.proofs.lemmas.List.{map-append}
use Rattle.std.specs.Prelude.{IfOk, IfErr}
use Rattle.sb_syntax.specs.declared.kind.TokenKind.{TokenKind}
use Rattle.sb_syntax.specs.declared.error.Fault.{Fault}
use Rattle.sb_syntax.specs.declared.error.Fault.TheVariants.{Refused, NoMemory}
use Rattle.sb_syntax.specs.Input.{Input}
use Rattle.sb_syntax.specs.Lists.{has_room, follows, HasRead, first, another, EndsAt, IsRefused, at_first, behind}
use Rattle.sb_syntax.specs.Reading.{Reader, Gives, Fails, chain, and_then, sees, next, pushes, separated, separated_to}
use Rattle.sb_syntax.specs.Turns.{GoesOn, GoesUpTo}
use Rattle.sb_syntax.proofs.Turns.{goes_on-next, goes_on-err, goes_on-end, goes_up-next, goes_up-err, goes_up-end, goes_up-full, seen_falls, pushes_yes, pushes_no}

both_hold : (a b : Bool) → (a && b) ≡ true → (a ≡ true) × (b ≡ true)
both_hold true b h = (refl, h)
both_hold false b h = let e : false ≡ true = h in cc

-- what follows is shorter
pub follows_falls : (sep : TokenKind) (most : Option ℕ) (n : ℕ) (ts after new : Input) → follows sep most n ts ≡ true → after ≡ next ts → length new ≤ length after → length new < length ts
follows_falls sep most n ts after new more past le = seen_falls sep ts after new (sees sep ts) refl (both_hold (sees sep ts) (has_room most n) more).0 past le

-- one more turn of a loop that has read the items xs, of which it counts n
module _ {T : Type 0} (sep : TokenKind) (most : Option ℕ) (gives : Input → Result T Fault → Input → Type 0) (old : Input) (xs : List T) (n : ℕ) (ts after rest : Input) where
  goes_on : follows sep most n ts ≡ true → n ≡ length xs → follows sep most (length xs) ts ≡ true
  goes_on more is = ap (λ m. follows sep most m ts) (sym is) ∙ more

  pub has_read-another : (x : T) → HasRead sep most gives old xs ts → follows sep most n ts ≡ true → n ≡ length xs → after ≡ next ts → gives after (Ok x) rest → HasRead sep most gives old (xs ++ x ∷ []) rest
  has_read-another x has more is past given = another has (goes_on more is) (subst (λ from. gives from (Ok x) rest) past given)

  pub is_refused-behind : (e : Fault) → HasRead sep most gives old xs ts → follows sep most n ts ≡ true → n ≡ length xs → after ≡ next ts → gives after (Err e) rest → IsRefused sep most gives old e
  is_refused-behind e has more is past given = behind has (goes_on more is) (subst (λ from. gives from (Err e) rest) past given)

module _ {T A : Type 0} (view : T → A) (item : Reader A) (sep : TokenKind) (old : Input) where
  -- the reading of an item, seen by view
  abbrev Read : Input → Result T Fault → Input → Type 0
  Read ts r rest = Gives view (item ts) r ts rest

  -- ---- with no limit

  on : (xs : List T) (ts : Input) → HasRead sep None Read old xs ts → GoesOn (pushes sep) item (separated sep item old) (length old) (map view xs) ts
  unfolding separated
  on xs ts (first {x = x} read) = record {
    turns = length ts;
    enough = omega arith;
    same = ap (λ o. and_then o (λ y mid. chain (pushes sep) item (length mid) (y ∷ []) mid)) read.0;
    shorter = read.1;
  }
  on xs ts (another {xs = before} {x = x} {ts = mid} {rest = rest} has more read) =
      goes_on-next (pushes sep) item (separated sep item old) (length old) (map view before) (map view (before ++ x ∷ [])) mid (next mid) rest _ _ (view x) refl (on before mid has) refl
      (pushes_yes sep mid (sees sep mid) refl (both_hold (sees sep mid) true more).0) refl read (map-append view before (x ∷ []))

  on-refused : (e : Fault) → IsRefused sep None Read old e → Fails e (separated sep item old)
  unfolding separated
  on-refused Refused (at_first fails) = ap (λ o. and_then o (λ y mid. chain (pushes sep) item (length mid) (y ∷ []) mid)) fails
  on-refused Refused (behind {xs = xs} {ts = ts} has more fails) =
      goes_on-err (pushes sep) item (separated sep item old) (length old) (map view xs) ts (next ts) _ _ Refused refl (on xs ts has) refl
      (pushes_yes sep ts (sees sep ts) refl (both_hold (sees sep ts) true more).0) refl fails
  on-refused NoMemory h = tt

  -- ---- with a limit

  module _ (more : ℕ) where
    up : (xs : List T) (ts : Input) → HasRead sep (Some (suc more)) Read old xs ts → GoesUpTo (pushes sep) item (separated_to more sep item old) (length old) (suc more - length xs) (map view xs) ts
    unfolding separated_to
    up xs ts (first {x = x} read) = record {
      same = ap (λ o. and_then o (λ y. chain (pushes sep) item more (y ∷ []))) read.0 ∙ ap (λ n. chain (pushes sep) item n (view x ∷ []) ts) (let e : more ≡ suc more - length (x ∷ []) = omega arith in e);
      shorter = read.1;
    }
    up xs ts (another {xs = before} {x = x} {ts = mid} {rest = rest} has go read) =
        let both = both_hold (sees sep mid) (nat_lt (length before) (suc more)) go in
        goes_up-next (pushes sep) item (separated_to more sep item old) (length old) (suc more - length before) (suc more - length (before ++ x ∷ [])) (map view before) (map view (before ++ x ∷ [])) mid (next mid) rest _ _ (view x) refl
        (fewer before x (ltb-true (length before) (suc more) both.1)) (up before mid has) refl (pushes_yes sep mid (sees sep mid) refl both.0) refl read (map-append view before (x ∷ []))
      where
        fewer : (xs : List T) (x : T) → length xs < suc more → suc more - length xs ≡ suc (suc more - length (xs ++ x ∷ []))
        fewer xs x h = omega (arith, h, length-append xs (x ∷ []))

    up-refused : (e : Fault) → IsRefused sep (Some (suc more)) Read old e → Fails e (separated_to more sep item old)
    unfolding separated_to
    up-refused Refused (at_first fails) = ap (λ o. and_then o (λ y. chain (pushes sep) item more (y ∷ []))) fails
    up-refused Refused (behind {xs = xs} {ts = ts} has go fails) =
        let both = both_hold (sees sep ts) (nat_lt (length xs) (suc more)) go in
        let low : length xs < suc more = ltb-true (length xs) (suc more) both.1 in
        goes_up-err (pushes sep) item (separated_to more sep item old) (length old) (suc more - length xs) (more - length xs) (map view xs) ts (next ts) _ _ Refused (omega (arith, low)) (up xs ts has) refl
        (pushes_yes sep ts (sees sep ts) refl both.0) refl fails
    up-refused NoMemory h = tt

    up-end : (xs : List T) (ts : Input) → HasRead sep (Some (suc more)) Read old xs ts → EndsAt sep (Some (suc more)) xs ts → (separated_to more sep item old ≡ Some (map view xs, ts)) × (length ts ≤ length old)
    up-end xs ts has ends = by (sees sep ts) refl ends
      where
        by : (seen : Bool) → seen ≡ sees sep ts → (seen && nat_lt (length xs) (suc more)) ≡ false → (separated_to more sep item old ≡ Some (map view xs, ts)) × (length ts ≤ length old)
        by true is full = goes_up-full (pushes sep) item _ _ _ _ ts (let h : suc more ≤ length xs = ltb-false (length xs) (suc more) full in omega (arith, h)) (up xs ts has)
        by false is full = goes_up-end (pushes sep) item _ _ _ _ ts _ (up xs ts has) refl (pushes_no sep ts false is refl)

  -- ---- what the call gives, whose list is held in V and seen by seen

  module _ {V : Type 0} (items : V → List T) (seen : V → List A) (same : (v : V) → map view (items v) ≡ seen v) (new : Input) where
    pub list_gives : (r : Result V Fault) → IfOk r (λ v. HasRead sep None Read old (items v) new) → IfOk r (λ v. EndsAt sep None (items v) new) → IfErr r (λ e. IsRefused sep None Read old e) → Gives seen (separated sep item old) r old new
    list_gives (Ok v) has ends refused =
        let none = pushes_no sep new (sees sep new) refl (no_room (sees sep new) ends) in
        let g = goes_on-end (pushes sep) item _ _ _ new _ (on (items v) new has) refl none in
        (g.0 ∙ ap (λ (xs : List A). Some (xs, new)) (same v), g.1)
      where
        no_room : (b : Bool) → (b && true) ≡ false → b ≡ false
        no_room true h = h
        no_room false h = refl
    list_gives (Err e) has ends refused = on-refused e refused

    pub limited_gives : (more : ℕ) (r : Result V Fault) → IfOk r (λ v. HasRead sep (Some (suc more)) Read old (items v) new) → IfOk r (λ v. EndsAt sep (Some (suc more)) (items v) new) → IfErr r (λ e. IsRefused sep (Some (suc more)) Read old e)
        → Gives seen (separated_to more sep item old) r old new
    limited_gives more (Ok v) has ends refused =
        let g = up-end more (items v) new has ends in
        (g.0 ∙ ap (λ (xs : List A). Some (xs, new)) (same v), g.1)
    limited_gives more (Err e) has ends refused = up-refused more e refused
