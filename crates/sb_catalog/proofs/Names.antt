-- Names stay distinct.
use Rattle.std.proofs.lemmas.Bool.{or_parts, or_from}
use Rattle.std.proofs.Common.{◌≡◌, ◌∙◌, ℕ, Bool, true, false, ◌||◌, cond, List, [], ◌∷◌, ◌++◌, map, filter, ap, refl}
use Rattle.std.specs.List.{list_any}
use Rattle.sb_value.specs.Name.{same_name}
use Rattle.sb_catalog.specs.Ruleset.{Ruleset}
use Rattle.sb_catalog.specs.Sets.{has_name, changed_if, changed, lacking, without_rule}
use Rattle.sb_catalog.specs.Distinct.{AreDistinct}

-- ---- one more at the end

none_appended : (p : Ruleset → Bool) (sets : List Ruleset) (n : Ruleset) → list_any p sets ≡ false → p n ≡ false → list_any p (sets ++ n ∷ []) ≡ false
none_appended p [] n h e = or_from (p n) false e refl
none_appended p (s ∷ sets) n h e =
    or_from (p s) (list_any p (sets ++ n ∷ [])) (or_parts (p s) (list_any p sets) h).0 (none_appended p sets n (or_parts (p s) (list_any p sets) h).1 e)

pub distinct_appended : (sets : List Ruleset) (n : Ruleset) → AreDistinct sets → has_name sets n.name ≡ false → AreDistinct (sets ++ n ∷ [])
distinct_appended [] n h e = (refl, tt)
distinct_appended (s ∷ sets) n h e = (
  none_appended (λ t. same_name s.name t.name) sets n h.0 (or_parts (same_name s.name n.name) (has_name sets n.name) e).0,
  distinct_appended sets n h.1 (or_parts (same_name s.name n.name) (has_name sets n.name) e).1,
)

-- ---- some are dropped

none_kept : (p : Ruleset → Bool) (s : Ruleset) (kept : List Ruleset) (b : Bool) → p s ≡ false → list_any p kept ≡ false → list_any p (cond b (s ∷ kept) kept) ≡ false
none_kept p s kept true h rest = or_from (p s) (list_any p kept) h rest
none_kept p s kept false h rest = rest

none_filtered : (p keep : Ruleset → Bool) (sets : List Ruleset) → list_any p sets ≡ false → list_any p (filter keep sets) ≡ false
none_filtered p keep [] h = refl
none_filtered p keep (s ∷ sets) h =
    none_kept p s (filter keep sets) (keep s) (or_parts (p s) (list_any p sets) h).0 (none_filtered p keep sets (or_parts (p s) (list_any p sets) h).1)

distinct_filtered_by : (keep : Ruleset → Bool) (s : Ruleset) (sets : List Ruleset) (b : Bool) → AreDistinct (s ∷ sets) → AreDistinct (filter keep sets) → AreDistinct (cond b (s ∷ filter keep sets) (filter keep sets))
distinct_filtered_by keep s sets true h rest = (none_filtered (λ t. same_name s.name t.name) keep sets h.0, rest)
distinct_filtered_by keep s sets false h rest = rest

pub distinct_filtered : (keep : Ruleset → Bool) (sets : List Ruleset) → AreDistinct sets → AreDistinct (filter keep sets)
distinct_filtered keep [] h = tt
distinct_filtered keep (s ∷ sets) h = distinct_filtered_by keep s sets (keep s) h (distinct_filtered keep sets h.1)

-- ---- the names stay

same_names : (f : Ruleset → Ruleset) → ((s : Ruleset) → (f s).name ≡ s.name) → (name : List ℕ) (sets : List Ruleset) → list_any (λ t. same_name name t.name) (map f sets) ≡ list_any (λ t. same_name name t.name) sets
same_names f e name [] = refl
same_names f e name (s ∷ sets) = λ i. same_name name (e s i) || same_names f e name sets i

pub distinct_mapped : (f : Ruleset → Ruleset) → ((s : Ruleset) → (f s).name ≡ s.name) → (sets : List Ruleset) → AreDistinct sets → AreDistinct (map f sets)
distinct_mapped f e [] h = tt
distinct_mapped f e (s ∷ sets) h =
    (ap (λ (n : List ℕ). list_any (λ t. same_name n t.name) (map f sets)) (e s) ∙ same_names f e s.name sets ∙ h.0, distinct_mapped f e sets h.1)

changed_name : (s : Ruleset) (b : Bool) (flags : List Bool) → (cond b (record s { rules = flags }) s).name ≡ s.name
changed_name s true flags = refl
changed_name s false flags = refl

pub distinct_changed : (change : List Bool → List Bool) (name : List ℕ) (sets : List Ruleset) → AreDistinct sets → AreDistinct (changed change sets name)
distinct_changed change name sets h = distinct_mapped (changed_if change name) (λ s. changed_name s (same_name s.name name) (change s.rules)) sets h

pub distinct_lacking : (rule : ℕ) (sets : List Ruleset) → AreDistinct sets → AreDistinct (without_rule sets rule)
distinct_lacking rule sets h = distinct_mapped (lacking rule) (λ s. refl) sets h
