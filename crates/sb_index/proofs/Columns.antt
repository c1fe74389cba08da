-- One more column of a table.
use Rattle.std.proofs.Math.Bool.{or_assoc}
use Rattle.std.proofs.Common.{◌≡◌, ℕ, zero, suc, ◌+◌, ◌<◌, Bool, true, false, ◌&&◌, ◌||◌, cond, Some, None, nat_eq, nat_lt, List, [], ◌∷◌, ◌++◌, map, drop, get_or, refl, sym, ap, ◌∙◌, arith, add-one, replicate}
use Rattle.sb_value.specs.Flags.{flag_at, share_place}
use Rattle.sb_value.specs.Laws.{kind_triggers}
use Rattle.sb_value.specs.Columns.{differing}
use Rattle.sb_value.specs.NetEffect.{update_between, is_operation, has_update}
use Rattle.sb_value.specs.Table.{old_row, new_row}
use Rattle.sb_value.specs.Values.{same_row}
use Rattle.sb_value.specs.declared.net.Net.TheVariants as net
use Rattle.sb_value.specs.declared.net.Triggers.{Triggers}
use Rattle.sb_value.specs.declared.value.Value.{Value}
use Rattle.sb_value.specs.declared.change.Change.{Change}
use Rattle.sb_value.specs.declared.change.ChangeKind.{ChangeKind}
use Rattle.sb_value.specs.declared.change.ChangeKind.TheVariants.{Inserted, Deleted, Updated}
use Rattle.sb_index.specs.Stands.{column_flags, triggers_in, in_table, no_table}
use Rattle.sb_index.specs.Operation.{Operation}
use Rattle.sb_index.specs.Operation.Operation.{insert, delete, update, update_of}
use Rattle.sb_index.specs.Places.{at_place}
use Rattle.sb_index.proofs.Flags.{share_place-drop}

-- the flags of the columns before i
abbrev pub marked : List (List Bool) → List Bool → ℕ → ℕ → ℕ → ℕ → Bool
marked old named rule i k r = flag_at (get_or old k []) r || (nat_eq r rule && (nat_lt k i && flag_at named k))

-- ---- columns in turn

-- the rules so far with those of the columns that are left
abbrev pub left_from : List (List Bool) → List Bool → List Bool → ℕ → ℕ → Bool
left_from columns named rules i r = flag_at rules r || share_place (drop i (column_flags columns r)) (drop i named)

pub left_more : (columns : List (List Bool)) (named rules new : List Bool) (wanted : Bool) (i : ℕ) → i < 8 → wanted ≡ flag_at named i →
    ((r : ℕ) → flag_at new r ≡ (flag_at rules r || (flag_at (get_or columns i []) r && wanted))) →
    (r : ℕ) → left_from columns named new (i + 1) r ≡ left_from columns named rules i r
left_more columns named rules new wanted i h is step r =
    let flags : List Bool = column_flags columns r in
    let here : flag_at flags i ≡ flag_at (get_or columns i []) r = at_place (λ k. flag_at (get_or columns k []) r) i h in
    ap (λ b. b || share_place (drop (i + 1) flags) (drop (i + 1) named)) (step r)
    ∙ or_assoc (flag_at rules r) (flag_at (get_or columns i []) r && wanted) (share_place (drop (i + 1) flags) (drop (i + 1) named))
    ∙ (λ j. flag_at rules r || ((sym here j && is j) || share_place (drop (add-one i j) flags) (drop (add-one i j) named)))
    ∙ ap (λ b. flag_at rules r || b) (sym (share_place-drop flags named i))

-- ---- no columns

shares_none : (n : ℕ) (ys : List Bool) → share_place (replicate n false) ys ≡ false
shares_none zero ys = refl
shares_none (suc n) [] = refl
shares_none (suc n) (y ∷ ys) = shares_none n ys

-- an update is an operation where the rows differ, and it counts
pub operation-differ : (triggers : Triggers) (old new : List Value) → same_row old new ≡ false → is_operation triggers (update_between old new) ≡ has_update triggers (differing old new)
operation-differ triggers old new e = ap (λ (b : Bool). is_operation triggers (cond b None (Some (net.Updated old new (differing old new))))) e

pub operation-same : (triggers : Triggers) (old new : List Value) → same_row old new ≡ true → is_operation triggers (update_between old new) ≡ false
operation-same triggers old new e = ap (λ (b : Bool). is_operation triggers (cond b None (Some (net.Updated old new (differing old new))))) e

-- a table with no rules has no candidates
pub none_triggered : (kind : ChangeKind) (c : Change) (r : ℕ) → kind_triggers kind (triggers_in no_table r) c ≡ false
none_triggered Inserted c r = refl
none_triggered Deleted c r = refl
none_triggered Updated c r = by (same_row (old_row c) (new_row c)) refl
  where
    by : (b : Bool) → same_row (old_row c) (new_row c) ≡ b → is_operation (triggers_in no_table r) (update_between (old_row c) (new_row c)) ≡ false
    by true e = operation-same (triggers_in no_table r) (old_row c) (new_row c) e
    by false e = operation-differ (triggers_in no_table r) (old_row c) (new_row c) e ∙ shares_none 8 (differing (old_row c) (new_row c))

-- ---- places past the end

pub none_in : (o : Operation) (r : ℕ) → in_table no_table o r ≡ false
none_in insert r = refl
none_in delete r = refl
none_in update r = refl
none_in (update_of k) r = refl

-- one more element that is as good as none
pub one_more : {X : Type 0} (f : X → Bool) (xs : List X) (i : ℕ) (x d : X) → f x ≡ f d → f (get_or (xs ++ x ∷ []) i d) ≡ f (get_or xs i d)
one_more f [] zero x d e = e
one_more f [] (suc i) x d e = refl
one_more f (y ∷ xs) zero x d e = refl
one_more f (y ∷ xs) (suc i) x d e = one_more f xs i x d e

pub one_default : {X : Type 0} (xs : List X) (i : ℕ) (d : X) → get_or (xs ++ d ∷ []) i d ≡ get_or xs i d
one_default [] zero d = refl
one_default [] (suc i) d = refl
one_default (y ∷ xs) zero d = refl
one_default (y ∷ xs) (suc i) d = one_default xs i d
