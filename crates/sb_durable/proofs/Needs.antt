-- Which segments a restart needs, where records come and volumes are begun.
use Rattle.std.proofs.Common.{get_or, set, ◌≡◌, ◌⊎◌, ◌<◌, ◌≤◌, ◌+◌, ◌-◌, ◌∙◌, ℕ, zero, suc, Bool, if◌then◌else◌, List, [], ◌∷◌, ◌++◌, take, drop, length, length-append, append_assoc, append-nil, Option, Some, None, refl, sym, ap, subst, inl, inr, arith}
use Rattle.std.specs.List.{cons_option}
use Rattle.std.specs.Prelude.{min}
use Rattle.std.proofs.lemmas.Grind.{flat_map-append}
use Rattle.std.proofs.lemmas.Bool.{cases_eq, cases_lt, ne_eqb}
use Rattle.std.proofs.lemmas.List.{drop-append-le, get_or-set_other, get_or-set_same, get_or_read_under, length-set, set-get_or, take-append-drop, take-append-le}
use Rattle.std.proofs.lemmas.List.Elements.{filter_map-append}
use Rattle.sb_durable.specs.Records.{Entry as Record}
use Rattle.sb_durable.specs.SegmentNeeds.{IsThere, NeedsNoneBelow, all_records, below, older_of, onward}
use Rattle.sb_durable.specs.VolumeRecords.{HasVolume, IsOfNoUse, Operation, operation_of, own_operation, own_operations, volume}

-- ---- the operations of a tenant

module _ (t : ℕ) where
  own_append : (xs ys : List Record) → own_operations t (xs ++ ys) ≡ own_operations t xs ++ own_operations t ys
  own_append xs ys = filter_map-append (own_operation t) xs ys

  front_empty : (xs ys : List Operation) → xs ++ ys ≡ [] → xs ≡ []
  front_empty [] ys none = refl
  front_empty (x ∷ xs) ys none = absurd cc

  none_in_front : (xs ys : List Record) → own_operations t (xs ++ ys) ≡ [] → own_operations t xs ≡ []
  none_in_front xs ys none = front_empty (own_operations t xs) (own_operations t ys) (sym (own_append xs ys) ∙ none)

  -- a whole volume stays one where others stand before or behind it
  volume_behind : (xs ys : List Record) → HasVolume t ys → HasVolume t (xs ++ ys)
  volume_behind xs ys v = record {
    front = own_operations t xs ++ v.front;
    script = v.script;
    back = v.back;
    split =
        own_append xs ys ∙ ap (λ (ds : List Operation). own_operations t xs ++ ds) v.split
        ∙ sym (append_assoc (own_operations t xs) v.front (volume v.script ++ v.back));
  }

  volume_before : (xs ys : List Record) → HasVolume t xs → HasVolume t (xs ++ ys)
  volume_before xs ys v = record {
    front = v.front;
    script = v.script;
    back = v.back ++ own_operations t ys;
    split =
        own_append xs ys ∙ ap (λ (ds : List Operation). ds ++ own_operations t ys) v.split
        ∙ append_assoc v.front (volume v.script ++ v.back) (own_operations t ys)
        ∙ ap (λ (ds : List Operation). v.front ++ ds) (append_assoc (volume v.script) v.back (own_operations t ys));
  }

-- ---- a row

all_append : (xs ys : List (List Record)) → all_records (xs ++ ys) ≡ all_records xs ++ all_records ys
all_append xs ys = flat_map-append (λ (records : List Record). records) xs ys

all_parts : (n : ℕ) (row : List (List Record)) → all_records row ≡ all_records (take n row) ++ all_records (drop n row)
all_parts n row = ap all_records (sym (take-append-drop n row)) ∙ all_append (take n row) (drop n row)

-- what stands between two places
pub record Between (a b : ℕ) (row : List (List Record)) : Type 0 where
  pub between : List (List Record)
  pub taken : take b row ≡ take a row ++ between
  pub left : drop a row ≡ between ++ drop b row

between_places : (a b : ℕ) (row : List (List Record)) → a ≤ b → Between a b row
between_places zero b row within = record { between = take b row; taken = refl; left = sym (take-append-drop b row) }
between_places (suc a) zero row within = absurd (omega (arith, within))
between_places (suc a) (suc b) [] within = record { between = []; taken = refl; left = refl }
between_places (suc a) (suc b) (r ∷ rs) within =
    let rest = between_places a b rs (omega (arith, within)) in record {
      between = rest.between;
      taken = ap (λ (l : List (List Record)). r ∷ l) rest.taken;
      left = rest.left;
    }

-- whoever needs no segment below one needs none below an older one
module _ (t first : ℕ) (row : List (List Record)) where
  lower : (number other : ℕ) → number ≤ other → IsOfNoUse t (below first other row) (onward first other row) → IsOfNoUse t (below first number row) (onward first number row)
  lower number other within needless = by needless
    where
      parts : Between (number - first) (other - first) row
      parts = between_places (number - first) (other - first) row (omega (arith, within))

      by : IsOfNoUse t (below first other row) (onward first other row) → IsOfNoUse t (below first number row) (onward first number row)
      by (inl none) = inl (none_in_front t (below first number row) (all_records parts.between) (ap (own_operations t) (sym (ap all_records parts.taken ∙ all_append (take (number - first) row) parts.between)) ∙ none))
      by (inr v) =
          inr (subst (HasVolume t) (sym (ap all_records parts.left ∙ all_append parts.between (drop (other - first) row)))
          (volume_behind t (all_records parts.between) (onward first other row) v))

  -- nothing is needed of a tenant without records
  of_no_use : (number : ℕ) → own_operations t (all_records row) ≡ [] → IsOfNoUse t (below first number row) (onward first number row)
  of_no_use number none = inl (none_in_front t (below first number row) (onward first number row) (ap (own_operations t) (sym (all_parts (number - first) row)) ∙ none))

-- ---- the oldest one that is needed

-- of two
pub older_serves : (t first : ℕ) (row : List (List Record)) (one other : Option ℕ) → NeedsNoneBelow t first row one ⊎ NeedsNoneBelow t first row other → NeedsNoneBelow t first row (older_of one other)
older_serves t first row None None (inl none) = none
older_serves t first row None None (inr none) = none
older_serves t first row None (Some b) (inl none) = of_no_use t first row b none
older_serves t first row None (Some b) (inr needless) = needless
older_serves t first row (Some a) None (inl needless) = needless
older_serves t first row (Some a) None (inr none) = of_no_use t first row a none
older_serves t first row (Some a) (Some b) (inl needless) = lower t first row (min a b) a (omega arith) needless
older_serves t first row (Some a) (Some b) (inr needless) = lower t first row (min a b) b (omega arith) needless

-- ---- one record more

module _ (first : ℕ) (row : List (List Record)) (newest : List Record) (one : Record) where
  abbrev before : List (List Record)
  before = row ++ newest ∷ []

  abbrev after : List (List Record)
  after = row ++ (newest ++ one ∷ []) ∷ []

  all_after : all_records after ≡ all_records before ++ one ∷ []
  all_after =
      all_append row ((newest ++ one ∷ []) ∷ []) ∙ ap (λ (l : List Record). all_records row ++ l) (append-nil (newest ++ one ∷ []))
      ∙ sym (append_assoc (all_records row) newest (one ∷ []))
      ∙ ap (λ (l : List Record). l ++ one ∷ []) (ap (λ (l : List Record). all_records row ++ l) (sym (append-nil newest)) ∙ sym (all_append row (newest ∷ [])))

  as_long : length after ≡ length before
  as_long = let a = length-append row ((newest ++ one ∷ []) ∷ []) in let b = length-append row (newest ∷ []) in omega (arith, a, b)

  -- up to the newest one the segments are the same
  module _ (n : ℕ) (within : n ≤ length row) where
    same_below : all_records (take n after) ≡ all_records (take n before)
    same_below = ap all_records (take-append-le n row ((newest ++ one ∷ []) ∷ []) within ∙ sym (take-append-le n row (newest ∷ []) within))

    more_onward : all_records (drop n after) ≡ all_records (drop n before) ++ one ∷ []
    more_onward =
        ap all_records (drop-append-le n row ((newest ++ one ∷ []) ∷ []) within) ∙ all_append (drop n row) ((newest ++ one ∷ []) ∷ [])
        ∙ ap (λ (l : List Record). all_records (drop n row) ++ l) (append-nil (newest ++ one ∷ []))
        ∙ sym (append_assoc (all_records (drop n row)) newest (one ∷ []))
        ∙ ap (λ (l : List Record). l ++ one ∷ []) (ap (λ (l : List Record). all_records (drop n row) ++ l) (sym (append-nil newest)) ∙ sym (all_append (drop n row) (newest ∷ [])) ∙ sym (ap all_records (drop-append-le n row (newest ∷ []) within)))

  abbrev Need : ℕ → List (List Record) → Option ℕ → Type 0
  Need t row need = IsThere first row need × NeedsNoneBelow t first row need

  pub some_then : (t number : ℕ) → Need t before (Some number) → Need t after (Some number)
  some_then t number (within, needless) = (omega (arith, within, as_long), by needless)
    where
      low : number - first ≤ length row
      low = let long = length-append row (newest ∷ []) in omega (arith, within, long)

      by : IsOfNoUse t (below first number before) (onward first number before) → IsOfNoUse t (below first number after) (onward first number after)
      by (inl none) = inl (ap (own_operations t) (same_below (number - first) low) ∙ none)
      by (inr v) = inr (subst (HasVolume t) (sym (more_onward (number - first) low)) (volume_before t (onward first number before) (one ∷ []) v))

  -- it is another tenant's
  pub none_then : (t : ℕ) → (t ≡ one.tenant → ⊥) → NeedsNoneBelow t first before None → NeedsNoneBelow t first after None
  none_then t other none =
      ap (own_operations t) all_after ∙ own_append t (all_records before) (one ∷ []) ∙ ap (λ (ds : List Operation). ds ++ own_operations t (one ∷ [])) none
      ∙ ap (λ (o : Option Operation). cons_option o []) (ap (λ (b : Bool). if b then operation_of one else None) (ne_eqb t one.tenant other))

  -- or the first one of its tenant
  pub first_then : (t : ℕ) → NeedsNoneBelow t first before None → Need t after (Some (first + length row))
  first_then t none = (
    let long = length-append row ((newest ++ one ∷ []) ∷ []) in omega (arith, long),
    inl (
        subst (λ (n : ℕ). own_operations t (all_records (take n after)) ≡ []) (let e : length row ≡ (first + length row) - first = omega arith in e)
        (ap (own_operations t) (same_below (length row) (omega arith) ∙ ap all_records (take-append-le (length row) row (newest ∷ []) (omega arith)))
        ∙ none_in_front t (all_records (take (length row) row)) (newest ++ [])
        (ap (own_operations t) (ap (λ (l : List Record). l ++ (newest ++ [])) (all_taken row) ∙ sym (all_append row (newest ∷ []))) ∙ none))
        ),
  )
    where
      all_taken : (l : List (List Record)) → all_records (take (length l) l) ≡ all_records l
      all_taken [] = refl
      all_taken (r ∷ rs) = ap (λ (l : List Record). r ++ l) (all_taken rs)

-- ---- by tenant

module _ (items : List (Option ℕ)) (at : ℕ) (value : Option ℕ) (within : at < length items) where
  laid : (P : Option ℕ → Type 0) (t : ℕ) → (t ≡ at → P value) → ((t ≡ at → ⊥) → P (get_or items t None)) → P (get_or (set items at value) t None)
  laid P t here there = by (cases_eq t at)
    where
      by : (t ≡ at) ⊎ (t ≡ at → ⊥) → P (get_or (set items at value) t None)
      by (inl same) = subst P (sym (ap (λ (n : ℕ). get_or (set items at value) n None) same ∙ get_or-set_same items at value None within)) (here same)
      by (inr other) = subst P (sym (get_or-set_other items at t value None other)) (there other)

module _ (items : List (Option ℕ)) (tenant first : ℕ) (row : List (List Record)) (newest : List Record) (one : Record) (own : one.tenant ≡ tenant)
    (needs : (t : ℕ) → t < length items → IsThere first (row ++ newest ∷ []) (get_or items t None) × NeedsNoneBelow t first (row ++ newest ∷ []) (get_or items t None)) where
  abbrev Was : ℕ → Option ℕ → Type 0
  Was t need = IsThere first (row ++ newest ∷ []) need × NeedsNoneBelow t first (row ++ newest ∷ []) need

  abbrev Is : ℕ → Option ℕ → Type 0
  Is t need = IsThere first (row ++ (newest ++ one ∷ []) ∷ []) need × NeedsNoneBelow t first (row ++ (newest ++ one ∷ []) ∷ []) need

  need_then : (t : ℕ) (o : Option ℕ) → (o ≡ None → t ≡ tenant → ⊥) → Was t o → Is t o
  need_then t None other none = (none.0, none_then first row newest one t (λ same. other refl (same ∙ own)) none.1)
  need_then t (Some number) other need = some_then first row newest one t number need

  -- the first record of the tenant
  pub noted_first : (segment : ℕ) → tenant < length items → get_or items tenant None ≡ None → segment ≡ first + length row
      → (t : ℕ) → t < length (set items tenant (Some segment)) → Is t (get_or (set items tenant (Some segment)) t None)
  noted_first segment there none at t within =
      let in_range : t < length items = let long = length-set items tenant (Some segment) in omega (arith, within, long) in
      laid items tenant (Some segment) there (Is t) t
      (λ same. subst (λ (n : ℕ). Is t (Some n)) (sym at)
      (first_then first row newest one t (subst (NeedsNoneBelow t first (row ++ newest ∷ [])) (ap (λ (n : ℕ). get_or items n None) same ∙ none) (needs t in_range).1)))
      (λ other. need_then t (get_or items t None) (λ none same. other same) (needs t in_range))

  -- one of a tenant that has some
  pub noted_again : (need : Option ℕ) → tenant < length items → need ≡ get_or items tenant need → (need ≡ None → ⊥)
      → (t : ℕ) → t < length (set items tenant need) → Is t (get_or (set items tenant need) t None)
  noted_again need there is some t within =
      let same : set items tenant need ≡ items = ap (set items tenant) is ∙ set-get_or items tenant need in
      let own_need : need ≡ get_or items tenant None = get_or_read_under items tenant (length items) need None is there refl in
      subst (λ (l : List (Option ℕ)). Is t (get_or l t None)) (sym same)
      (need_then t (get_or items t None) (λ none at. some (own_need ∙ ap (λ (n : ℕ). get_or items n None) (sym at) ∙ none))
      (needs t (let long = length-set items tenant need in omega (arith, within, long))))

  -- one of a tenant that isn't counted
  pub noted_past : length items ≤ tenant → (t : ℕ) → t < length items → Is t (get_or items t None)
  noted_past past t within = need_then t (get_or items t None) (λ none same. absurd (omega (arith, past, within, same))) (needs t within)

-- a whole volume
pub noted_volume : (items : List (Option ℕ)) (tenant begins first : ℕ) (row : List (List Record)) → tenant < length items → begins < first + length row → HasVolume tenant (onward first begins row)
    → ((t : ℕ) → t < length items → IsThere first row (get_or items t None) × NeedsNoneBelow t first row (get_or items t None))
    → (t : ℕ) → t < length (set items tenant (Some begins)) → IsThere first row (get_or (set items tenant (Some begins)) t None) × NeedsNoneBelow t first row (get_or (set items tenant (Some begins)) t None)
noted_volume items tenant begins first row there low v needs t within =
    laid items tenant (Some begins) there (λ (need : Option ℕ). IsThere first row need × NeedsNoneBelow t first row need) t
    (λ same. (low, inr (subst (λ (n : ℕ). HasVolume n (onward first begins row)) (sym same) v)))
    (λ other. needs t (let long = length-set items tenant (Some begins) in omega (arith, within, long)))

-- ---- of one tenant more

before_or_at : (a b : ℕ) → a < b + 1 → (a ≡ b → ⊥) → a < b
before_or_at a b low other = by (cases_lt a b)
  where
    by : (a < b) ⊎ (b ≤ a) → a < b
    by (inl is) = is
    by (inr not) = absurd (other (omega (arith, low, not)))

served_on : (count first : ℕ) (row : List (List Record)) (oldest need : Option ℕ) → ((t : ℕ) → t < count → NeedsNoneBelow t first row oldest) → NeedsNoneBelow count first row need
    → (t : ℕ) → t < count + 1 → NeedsNoneBelow t first row (older_of oldest need)
served_on count first row oldest need before own t within = by (cases_eq t count)
  where
    by : (t ≡ count) ⊎ (t ≡ count → ⊥) → NeedsNoneBelow t first row (older_of oldest need)
    by (inl same) = older_serves t first row oldest need (inr (subst (λ (n : ℕ). NeedsNoneBelow n first row need) (sym same) own))
    by (inr other) = older_serves t first row oldest need (inl (before t (before_or_at t count within other)))

pub served_then : (items : List (Option ℕ)) (count first : ℕ) (row : List (List Record)) (oldest need now : Option ℕ) → now ≡ older_of oldest need → need ≡ get_or items count None → count < length items
    → ((t : ℕ) → t < count → NeedsNoneBelow t first row oldest) → ((t : ℕ) → t < length items → IsThere first row (get_or items t None) × NeedsNoneBelow t first row (get_or items t None))
    → (t : ℕ) → t < count + 1 → NeedsNoneBelow t first row now
served_then items count first row oldest need now is at there before needs t within =
    subst (NeedsNoneBelow t first row) (sym is) (served_on count first row oldest need before (subst (NeedsNoneBelow count first row) (sym at) (needs count there).1) t within)
