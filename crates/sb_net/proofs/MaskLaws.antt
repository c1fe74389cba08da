-- Operations that are put together meet a rule where one of them does.
use Rattle.std.proofs.Common.{◌≡◌, Bool, true, false, ◌||◌, ◌&&◌, List, [], ◌∷◌, ℕ, zero, suc, refl, sym, ap, ◌∙◌}
use Rattle.std.proofs.Math.Bool.{or-false}
use Rattle.sb_value.specs.Flags.{share_place, union, no_flags}
use Rattle.sb_value.specs.declared.net.Triggers.{Triggers}
use Rattle.sb_net.specs.declared.operations.NetOperations.{NetOperations}
use Rattle.sb_net.specs.Meets.{meets}

or_true : (b : Bool) → (b || true) ≡ true
or_true true = refl
or_true false = refl

or_assoc : (a b c : Bool) → ((a || b) || c) ≡ (a || (b || c))
or_assoc true b c = refl
or_assoc false b c = refl

and_false : (b : Bool) → (b && false) ≡ false
and_false true = refl
and_false false = refl

-- ---- sets of columns

share_none : (ts : List Bool) (n : ℕ) → share_place ts (no_flags n) ≡ false
share_none [] n = refl
share_none (t ∷ ts) zero = refl
share_none (t ∷ ts) (suc n) = (λ i. and_false t i || share_none ts n i)

shared : (t x y a b : Bool) → ((t && (x || y)) || (a || b)) ≡ (((t && x) || a) || ((t && y) || b))
shared false x y a b = refl
shared true true y a b = refl
shared true false true true b = refl
shared true false true false b = refl
shared true false false a b = refl

pub share_union : (ts xs ys : List Bool) → share_place ts (union xs ys) ≡ (share_place ts xs || share_place ts ys)
share_union [] xs ys = refl
share_union (t ∷ ts) [] ys = refl
share_union (t ∷ ts) (x ∷ xs) [] = sym (or-false (share_place (t ∷ ts) (x ∷ xs)))
share_union (t ∷ ts) (x ∷ xs) (y ∷ ys) = ap (λ b. (t && (x || y)) || b) (share_union ts xs ys) ∙ shared t x y (share_place ts xs) (share_place ts ys)

-- ---- one operation more

first_more : (t o r : Bool) → ((t && true) || r) ≡ (((t && o) || r) || t)
first_more true o r = sym (or_true (o || r))
first_more false o r = sym (or-false r)

second_more : (a t o r : Bool) → (a || ((t && true) || r)) ≡ ((a || ((t && o) || r)) || t)
second_more a t o r = ap (λ b. a || b) (first_more t o r) ∙ sym (or_assoc a ((t && o) || r) t)

third_more : (a b t o s c : Bool) → (a || (b || ((t && true) || (s || c)))) ≡ ((a || (b || ((t && o) || s))) || (t || c))
third_more true b t o s c = refl
third_more false true t o s c = refl
third_more false false true o s c = sym (or_true (o || s))
third_more false false false o s c = refl

module _ (t : Triggers) (o : NetOperations) where
  pub meets_insert : meets t (record o { inserted = true }) ≡ (meets t o || t.inserted)
  meets_insert = first_more t.inserted o.inserted ((t.deleted && o.deleted) || ((t.updated && o.updated) || share_place t.columns o.columns))

  pub meets_delete : meets t (record o { deleted = true }) ≡ (meets t o || t.deleted)
  meets_delete = second_more (t.inserted && o.inserted) t.deleted o.deleted ((t.updated && o.updated) || share_place t.columns o.columns)

  pub meets_update : (columns all : List Bool) → all ≡ union o.columns columns → meets t (record { inserted = o.inserted; deleted = o.deleted; updated = true; columns = all }) ≡ (meets t o || (t.updated || share_place t.columns columns))
  meets_update columns all e =
      ap (λ cs. (t.inserted && o.inserted) || ((t.deleted && o.deleted) || ((t.updated && true) || share_place t.columns cs))) e
      ∙ ap (λ b. (t.inserted && o.inserted) || ((t.deleted && o.deleted) || ((t.updated && true) || b))) (share_union t.columns o.columns columns)
      ∙ third_more (t.inserted && o.inserted) (t.deleted && o.deleted) t.updated o.updated (share_place t.columns o.columns) (share_place t.columns columns)

pub meets_none : (t : Triggers) → meets t (record { inserted = false; deleted = false; updated = false; columns = no_flags 8 }) ≡ false
meets_none t = (λ i. and_false t.inserted i || (and_false t.deleted i || (and_false t.updated i || share_none t.columns 8 i)))

-- a walk's first element is met, or one of the rest
pub more_met : (m a b all : Bool) → all ≡ (a || b) → (m || all) ≡ ((m || a) || b)
more_met m a b all e = ap (λ c. m || c) e ∙ sym (or_assoc m a b)

-- three kinds, one after another, from none
pub three_met : (n i d u x y z : Bool) → n ≡ false → x ≡ (n || i) → y ≡ (x || d) → z ≡ (y || u) → z ≡ ((i || d) || u)
three_met n i d u x y z none e f g = g ∙ ap (λ b. b || u) (f ∙ ap (λ b. b || d) (e ∙ ap (λ b. b || i) none))
