-- Things by name, in the lists that hold them.
use Rattle.std.proofs.Common.{◌≡◌, ℕ, Bool, true, false, not, List, [], ◌∷◌, length, filter, Ok, Err, Vec, Global, refl, ap, ◌∙◌, inl}
use Rattle.std.specs.Str.{bytes_eq}
use Rattle.sb_frontend.specs.declared.denial.Denial.{Denial}
use Rattle.sb_frontend.specs.declared.denial.Denial.TheVariants.{TooMany}
use Rattle.sb_frontend.specs.Denials.{Comes}
use Rattle.sb_frontend.specs.Names.{Named, is_free, name_limit, seen, stored, with, without}
use Rattle.std.specs.Prelude.{nat_le}

-- which entries have another name
abbrev pub is_other : {X : Type 0} → List ℕ → (Vec ℕ Global × X) → Bool
is_other name e = not (bytes_eq e.0.items name)

pub seen-without : {X : Type 0} (name : List ℕ) (es : List (Vec ℕ Global × X)) → seen (filter (is_other name) es) ≡ without name (seen es)
seen-without name [] = refl
seen-without name (e ∷ es) = go (bytes_eq e.0.items name) refl (seen-without name es)
  where
    go : (b : Bool) → bytes_eq e.0.items name ≡ b → seen (filter (is_other name) es) ≡ without name (seen es) → seen (filter (is_other name) (e ∷ es)) ≡ without name (seen (e ∷ es))
    go true is rec = rw is rec
    go false is rec = rw is (ap (λ ns. (e.0.items, e.1) ∷ ns) rec)

pub left-out : {X : Type 0} (name : List ℕ) (old new : List (Vec ℕ Global × X)) → new ≡ filter (is_other name) old → seen new ≡ without name (seen old)
left-out name old new is = ap seen is ∙ seen-without name old

-- ---- a name that is stored

pub not-free : {X : Type 0} (name : List ℕ) (x : X) (exists : Denial) (ns : Named X) → is_free name ns ≡ false → Comes (stored name x exists ns) (Err exists)
not-free name x exists ns e = inl (rw e refl)

pub is-full : {X : Type 0} (name : List ℕ) (x : X) (exists : Denial) (ns : Named X) → is_free name ns ≡ true → nat_le name_limit (length ns) ≡ true → Comes (stored name x exists ns) (Err TooMany)
is-full name x exists ns e f = inl (rw (e, f) refl)

pub is-stored : {X : Type 0} (name : List ℕ) (x : X) (exists : Denial) (ns new : Named X) → is_free name ns ≡ true → nat_le name_limit (length ns) ≡ false → new ≡ with name x ns → Comes (stored name x exists ns) (Ok new)
is-stored name x exists ns new e f is = inl (rw (e, f) (ap (λ ms. Ok ms) is))
