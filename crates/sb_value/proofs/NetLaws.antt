-- The laws of net effects.
use Rattle.std.proofs.lemmas.Bool.{false≢true}
use Rattle.std.proofs.Common.{◌≡◌, Bool, true, false, cond, List, [], ◌∷◌, ◌++◌, Option, Some, None, refl, sym, ◌∙◌, ap, subst}
use Rattle.std.proofs.lemmas.List.Elements.{filter-append}
use Rattle.sb_value.specs.Columns.{differing}
use Rattle.sb_value.specs.NetEffect.{is_of, history, last_of, update_between, net_between, net_of, then_net}
use Rattle.sb_value.specs.Laws.{may_follow, Follows, IsLife, NetEffectsCompose, UntouchedTuplesStay}
use Rattle.sb_value.specs.Table.{new_row, old_row}
use Rattle.sb_value.specs.Values.{same_row}
use Rattle.sb_value.specs.declared.change.Change.{Change}
use Rattle.sb_value.specs.declared.net.Net.{Net}
use Rattle.sb_value.specs.declared.net.Net.TheVariants as net
use Rattle.sb_value.specs.declared.change.ChangeKind.{ChangeKind}
use Rattle.sb_value.specs.declared.change.ChangeKind.TheVariants.{Inserted, Deleted, Updated}
use Rattle.sb_value.specs.declared.value.Value.{Value}
use Rattle.sb_value.specs.ValueEquality.{same_row_is}

pub last_of-append : (c : Change) (cs : List Change) (d : Change) (ds : List Change) → last_of c (cs ++ d ∷ ds) ≡ last_of d ds
last_of-append c [] d ds = refl
last_of-append c (b ∷ cs) d ds = last_of-append b cs d ds

-- ---- the kinds of a first and a last change

-- the first and the last change of one life: all begins with an insert and ends with a delete
abbrev pub span : ChangeKind → ChangeKind → Bool
span Inserted last = true
span Deleted Deleted = true
span first last = may_follow first last

span_itself : (k : ChangeKind) → span k k ≡ true
span_itself Inserted = refl
span_itself Updated = refl
span_itself Deleted = refl

span_onward : (k d e : ChangeKind) → may_follow k d ≡ true → span d e ≡ true → span k e ≡ true
span_onward Inserted d e h s = refl
span_onward Updated Inserted e h s = absurd (false≢true h)
span_onward Updated Updated e h s = s
span_onward Updated Deleted Inserted h s = s
span_onward Updated Deleted Updated h s = refl
span_onward Updated Deleted Deleted h s = refl
span_onward Deleted d e h s = absurd (false≢true h)

none_inserts : (k : ChangeKind) → may_follow k Inserted ≡ false
none_inserts Inserted = refl
none_inserts Updated = refl
none_inserts Deleted = refl

pub span_of : (c : Change) (cs : List Change) → IsLife (c ∷ cs) → span c.kind (last_of c cs).kind ≡ true
span_of c [] h = span_itself c.kind
span_of c (d ∷ ds) h = span_onward c.kind d.kind (last_of d ds).kind h.0.0 (span_of d ds h.1)

-- the part of a life after some changes is one, and follows the last of them
pub life_after : (c : Change) (cs : List Change) (d : Change) (ds : List Change) → IsLife (c ∷ cs ++ d ∷ ds) → Follows (last_of c cs) d × IsLife (d ∷ ds)
life_after c [] d ds h = h
life_after c (b ∷ cs) d ds h = life_after b cs d ds h.1

pub life_before : (xs ys : List Change) → IsLife (xs ++ ys) → IsLife xs
life_before [] ys h = tt
life_before (c ∷ []) ys h = tt
life_before (c ∷ b ∷ cs) ys h = (h.0, life_before (b ∷ cs) ys h.1)

-- ---- composition

-- updates and updates, an insert and updates, updates and a delete
update_updated : (a b c : List Value) → update_between a c ≡ then_net (update_between a b) (update_between b c)
update_updated a b c = by (same_row a b) refl (same_row b c) refl
  where
    by : (x : Bool) → same_row a b ≡ x → (y : Bool) → same_row b c ≡ y → update_between a c ≡ then_net (cond x None (Some (net.Updated a b (differing a b)))) (cond y None (Some (net.Updated b c (differing b c))))
    by true e y f = ap (λ (r : List Value). update_between r c) (same_row_is a b e) ∙ ap (λ (z : Bool). cond z None (Some (net.Updated b c (differing b c)))) f
    by false e true f = ap (update_between a) (sym (same_row_is b c f)) ∙ ap (λ (z : Bool). cond z None (Some (net.Updated a b (differing a b)))) e
    by false e false f = refl

insert_updated : (b c : List Value) → Some (net.Inserted c) ≡ then_net (Some (net.Inserted b)) (update_between b c)
insert_updated b c = by (same_row b c) refl
  where
    by : (x : Bool) → same_row b c ≡ x → Some (net.Inserted c) ≡ then_net (Some (net.Inserted b)) (cond x None (Some (net.Updated b c (differing b c))))
    by true e = ap (λ (r : List Value). Some (net.Inserted r)) (sym (same_row_is b c e))
    by false e = refl

update_deleted : (a b : List Value) → Some (net.Deleted a) ≡ then_net (update_between a b) (Some (net.Deleted b))
update_deleted a b = by (same_row a b) refl
  where
    by : (x : Bool) → same_row a b ≡ x → Some (net.Deleted a) ≡ then_net (cond x None (Some (net.Updated a b (differing a b)))) (Some (net.Deleted b))
    by true e = ap (λ (r : List Value). Some (net.Deleted r)) (same_row_is a b e)
    by false e = refl

module _ (p q r s : Change) (row : old_row r ≡ new_row q) where
  -- the second part begins with the row that the first one ends with
  shifted : (P : List Value → Type 0) → P (new_row q) → P (old_row r)
  shifted P h = subst P (sym row) h

  -- updates, and then a part that ends with a delete
  joined_deleted : Some (net.Deleted (old_row p)) ≡ then_net (update_between (old_row p) (new_row q)) (Some (net.Deleted (old_row r)))
  joined_deleted = shifted (λ b. Some (net.Deleted (old_row p)) ≡ then_net (update_between (old_row p) (new_row q)) (Some (net.Deleted b))) (update_deleted (old_row p) (new_row q))

  -- a row that the first part inserts, with the second part
  inserted : (m d e : ChangeKind) → may_follow m d ≡ true → span d e ≡ true → net_between Inserted e p s ≡ then_net (Some (net.Inserted (new_row q))) (net_between d e r s)
  inserted m Updated Updated f v = shifted (λ b. Some (net.Inserted (new_row s)) ≡ then_net (Some (net.Inserted (new_row q))) (update_between b (new_row s))) (insert_updated (new_row q) (new_row s))
  inserted m Updated Deleted f v = refl
  inserted m Updated Inserted f v = absurd (false≢true v)
  inserted m Deleted Deleted f v = refl
  inserted m Deleted Updated f v = absurd (false≢true v)
  inserted m Deleted Inserted f v = absurd (false≢true v)
  inserted m Inserted e f v = absurd (false≢true (sym (none_inserts m) ∙ f))

  joined : (k m d e : ChangeKind) → span k m ≡ true → may_follow m d ≡ true → span d e ≡ true → net_between k e p s ≡ then_net (net_between k m p q) (net_between d e r s)
  joined Inserted Inserted d e u f v = inserted Inserted d e f v
  joined Inserted Updated d e u f v = inserted Updated d e f v
  joined Updated Updated Updated Updated u f v =
      shifted (λ b. update_between (old_row p) (new_row s) ≡ then_net (update_between (old_row p) (new_row q)) (update_between b (new_row s))) (update_updated (old_row p) (new_row q) (new_row s))
  joined Updated Updated Updated Deleted u f v = joined_deleted
  joined Updated Updated Deleted Deleted u f v = joined_deleted
  joined Updated Updated Updated Inserted u f v = absurd (false≢true v)
  joined Updated Updated Deleted Updated u f v = absurd (false≢true v)
  joined Updated Updated Deleted Inserted u f v = absurd (false≢true v)
  joined Updated Updated Inserted e u f v = absurd (false≢true f)
  joined k Deleted d e u f v = absurd (false≢true f)
  joined Updated Inserted d e u f v = absurd (false≢true u)
  joined Deleted Inserted d e u f v = absurd (false≢true u)
  joined Deleted Updated d e u f v = absurd (false≢true u)

then_net-None : (n : Option Net) → then_net n None ≡ n
then_net-None None = refl
then_net-None (Some n) = refl

pub append-nil : (xs : List Change) → xs ++ [] ≡ xs
append-nil [] = refl
append-nil (x ∷ xs) = ap (λ ys. x ∷ ys) (append-nil xs)

net_of-append : (xs ys : List Change) → IsLife (xs ++ ys) → net_of (xs ++ ys) ≡ then_net (net_of xs) (net_of ys)
net_of-append [] ys h = refl
net_of-append (c ∷ cs) [] h = ap net_of (append-nil (c ∷ cs)) ∙ sym (then_net-None (net_of (c ∷ cs)))
net_of-append (c ∷ cs) (d ∷ ds) h =
    let on = life_after c cs d ds h in
    ap (λ (l : Change). net_between c.kind l.kind c l) (last_of-append c cs d ds)
    ∙ joined c (last_of c cs) d (last_of d ds) on.0.1 c.kind (last_of c cs).kind d.kind (last_of d ds).kind
    (span_of c cs (life_before (c ∷ cs) (d ∷ ds) h)) on.0.0 (span_of d ds on.1)

pub net_effects_compose : NetEffectsCompose
net_effects_compose xs ys table tuple h =
    ap net_of (filter-append (is_of table tuple) xs ys)
    ∙ net_of-append (history xs table tuple) (history ys table tuple) (subst IsLife (filter-append (is_of table tuple) xs ys) h)

pub untouched_tuples_stay : UntouchedTuplesStay
untouched_tuples_stay xs ys table tuple none =
    ap net_of (filter-append (is_of table tuple) xs ys ∙ ap (λ (l : List Change). history xs table tuple ++ l) none ∙ append-nil (history xs table tuple))
