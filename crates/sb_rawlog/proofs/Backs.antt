-- A spot that passes several of a tuple's changes at once.
use Rattle.std.proofs.Common.{◌≡◌, ℕ, ◌<◌, ◌≤◌, Bool, true, false, cond, ◌&&◌, ◌==◌, nat_le, nat_lt, List, [], ◌∷◌, ◌++◌, reverse, get_or, Option, Some, None, refl, sym, ap, ◌∙◌, subst, arith, eqb-true}
use Rattle.std.proofs.lemmas.Bool.{and_parts, lt-ltb, le-leb}
use Rattle.std.proofs.lemmas.List.Elements.{filter-append}
use Rattle.sb_value.specs.NetEffect.{is_of}
use Rattle.sb_value.specs.declared.change.Change.{Change}
use Rattle.sb_rawlog.specs.declared.node.Node.{Node}
use Rattle.sb_rawlog.specs.declared.spot.Spot.{Spot}
use Rattle.sb_rawlog.specs.Changes.{author, is_by, is_tuple}
use Rattle.sb_rawlog.specs.Places.{HoldsLog}
use Rattle.sb_rawlog.specs.Raw.{Stands, records_of}
use Rattle.sb_rawlog.specs.Records.{Record, Rising, selected, walk, before, change_at}
use Rattle.sb_rawlog.specs.Search.{spot_for}
use Rattle.sb_rawlog.specs.Steps.{todo_from, TupleOlder}
use Rattle.sb_rawlog.proofs.Rises.{before-split, same_record}
use Rattle.sb_rawlog.proofs.Seen.{turned, rising-before, before-before}
use Rattle.sb_rawlog.proofs.Sessions.{author_is}
use Rattle.sb_rawlog.proofs.Steps.{value, place_change, seen_rises, stands_at}

-- the record of a time, with those in front of it and behind it
at_split : (t : ℕ) (rs : List Record) (c : Change) → change_at t rs ≡ Some c → (us : List Record) × ((vs : List Record) × (rs ≡ us ++ (t, c) ∷ vs))
unfolding change_at
at_split t [] c e = absurd (cc)
at_split t (r ∷ rs) c e =
    elim (r.0 == t) as (λ b. (r.0 == t) ≡ b → cond b (Some r.1) (change_at t rs) ≡ Some c → (us : List Record) × ((vs : List Record) × (r ∷ rs ≡ us ++ (t, c) ∷ vs))) [
      | true ↦ λ same h. ([], (rs, ap (λ q. q ∷ rs) (same_record r t c (eqb-true r.0 t same) h)))
      | false ↦ λ _ h. let on = at_split t rs c h in (r ∷ on.0, (on.1.0, ap (λ l. r ∷ l) on.1.1))
    ] refl e

module _ (p : Change → Bool) (since top t : ℕ) (c : Change) (fits : p c ≡ true) (from : since ≤ t) (older : t < top) where
  front : (us vs : List Record) → before top (us ++ (t, c) ∷ vs) ≡ before top us ++ (t, c) ∷ before top vs
  unfolding before
  front us vs =
      filter-append (λ (r : Record). nat_lt r.0 top) us ((t, c) ∷ vs)
      ∙ ap (λ b. before top us ++ cond b ((t, c) ∷ before top vs) (before top vs)) (lt-ltb t top older)

  walked : (us vs : List Record) → walk p since (us ++ (t, c) ∷ vs) ≡ walk p since vs ++ (t, c) ∷ walk p since us
  unfolding walk selected
  walked us vs =
      ap reverse (filter-append (λ (r : Record). nat_le since r.0 && p r.1) us ((t, c) ∷ vs) ∙ ap (λ b. selected p since us ++ cond b ((t, c) ∷ selected p since vs) (selected p since vs)) (λ i. le-leb since t from i && fits i))
      ∙ turned (selected p since us) (selected p since vs) (t, c)

  -- what a walk has left before a time ends with what it has left at an older record
  walk_passes : (rs : List Record) (clock : ℕ) → Rising 0 rs clock → change_at t rs ≡ Some c → (us : List Record) × (walk p since (before top rs) ≡ us ++ (t, c) ∷ walk p since (before t rs))
  walk_passes rs clock up e =
      let cut = at_split t rs c e in
      let shape : before top rs ≡ before top cut.0 ++ (t, c) ∷ before top cut.1.0 = ap (before top) cut.1.1 ∙ front cut.0 cut.1.0 in
      let rising = subst (λ (l : List Record). Rising 0 l clock) shape (rising-before top rs clock up) in
      let behind : before t rs ≡ before top cut.0 =
      sym (before-before t top rs (omega arith)) ∙ ap (before t) shape ∙ before-split (t, c) (before top cut.1.0) 0 (before top cut.0) clock rising in
      (walk p since (before top cut.1.0), ap (walk p since) shape ∙ walked (before top cut.0) (before top cut.1.0) ∙ ap (λ l. walk p since (before top cut.1.0) ++ (t, c) ∷ walk p since l) (sym behind))

module _ (cs : List (Option (Node Change))) (ops tuples sessions : List (Option ℕ)) (order : List ℕ) (clock room : ℕ) (holds : HoldsLog cs ops tuples sessions order clock) where
  abbrev rs : List Record
  rs = records_of (value cs ops tuples sessions order clock room holds)

  pub older_spot : (at : Spot) (n m : Node Change) (place : ℕ) → get_or cs at.place None ≡ Some n → n.time ≡ at.time → is_tuple at.who at.table at.tuple n.item ≡ true → get_or cs place None ≡ Some m
      → at.since ≤ m.time → m.time < at.time → is_tuple at.who at.table at.tuple m.item ≡ true → TupleOlder (Stands (value cs ops tuples sessions order clock room holds)) rs at (spot_for place at.since m)
  older_spot at n m place here when good there from older fits =
      let by = and_parts (is_by at.who m.item) (is_of at.table at.tuple m.item) fits in
      let of = and_parts (m.item.table == at.table) (m.item.tuple == at.tuple) by.1 in
      let who : author m.item ≡ at.who = author_is at.who m.item by.0 in
      let table : m.item.table ≡ at.table = eqb-true m.item.table at.table of.0 in
      let tuple : m.item.tuple ≡ at.tuple = eqb-true m.item.tuple at.tuple of.1 in
      let p : Change → Bool = is_tuple at.who at.table at.tuple in
      let change : change_at at.time rs ≡ Some n.item = ap (λ t. change_at t rs) (sym when) ∙ place_change cs ops tuples sessions order clock room holds at.place n here in
      let older_change : change_at m.time rs ≡ Some m.item = place_change cs ops tuples sessions order clock room holds place m there in
      let passes = walk_passes p at.since at.time m.time m.item fits from older rs clock (seen_rises cs ops tuples sessions order clock room holds) older_change in
      record {
        stands = stands_at cs ops tuples sessions order clock room holds place at.since m there;
        who_is = who;
        table_is = table;
        tuple_is = tuple;
        since_is = refl;
        first = (at.time, n.item);
        passed = passes.0;
        left = ap (todo_from p rs at.since at.time) change
            ∙ ap (λ l. (at.time, n.item) ∷ l) (passes.1 ∙ ap (λ l. passes.0 ++ l) (λ j. todo_from (is_tuple (sym who j) (sym table j) (sym tuple j)) rs at.since m.time (sym older_change j)));
      }
