-- What is found in a list, and whether something is.
use Rattle.std.proofs.Common.{◌≡◌, refl, Bool, true, false, List, [], ◌∷◌}
use Rattle.std.specs.Prelude.{find, if◌then◌else◌, ◌||◌, None, Some, option_map}
use Rattle.std.specs.List.{list_any}

some_first : {B C : Type 0} (b : Bool) (g : B → C) (p : B → Bool) (x : B) (xs : List B) (c : C)
    → (Some c ≡ option_map g (find p xs) → list_any p xs ≡ true) → Some c ≡ option_map g (if b then Some x else find p xs) → (b || list_any p xs) ≡ true
some_first true g p x xs c rest h = refl
some_first false g p x xs c rest h = rest h

pub some_found : {B C : Type 0} (g : B → C) (p : B → Bool) (xs : List B) (c : C) → Some c ≡ option_map g (find p xs) → list_any p xs ≡ true
some_found g p [] c h = absurd (cc h)
some_found g p (x ∷ xs) c h = some_first (p x) g p x xs c (some_found g p xs c) h

none_first : {B C : Type 0} (b : Bool) (g : B → C) (p : B → Bool) (x : B) (xs : List B)
    → (None ≡ option_map g (find p xs) → list_any p xs ≡ false) → None ≡ option_map g (if b then Some x else find p xs) → (b || list_any p xs) ≡ false
none_first true g p x xs rest h = absurd (cc h)
none_first false g p x xs rest h = rest h

pub none_found : {B C : Type 0} (g : B → C) (p : B → Bool) (xs : List B) → None ≡ option_map g (find p xs) → list_any p xs ≡ false
none_found g p [] h = refl
none_found g p (x ∷ xs) h = none_first (p x) g p x xs (none_found g p xs) h
