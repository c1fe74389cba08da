-- A step for a key is a step of the walk that the key names.
use Rattle.std.proofs.lemmas.Bool.{and_parts}
use Rattle.std.proofs.Common.{◌≡◌, ℕ, Bool, true, ◌&&◌, ◌==◌, List, length, take, Option, Some, None, refl, sym, ap, ◌∙◌, subst, eqb-true}
use Rattle.std.proofs.Math.Seq.{take-length}
use Rattle.sb_value.specs.declared.id.Who.{Who}
use Rattle.sb_value.specs.declared.change.ChangeKind.{ChangeKind}
use Rattle.sb_value.specs.declared.change.Change.{Change}
use Rattle.sb_rawlog.specs.declared.key.Key.{Key}
use Rattle.sb_rawlog.specs.declared.key.Key.TheVariants.{Op as OpKey, Tuple as TupleKey}
use Rattle.sb_rawlog.specs.declared.spot.Spot.{Spot}
use Rattle.sb_rawlog.specs.Changes.{author, is_by, same_kind, is_op, is_tuple}
use Rattle.sb_rawlog.specs.Keys.{fits}
use Rattle.sb_rawlog.specs.KeySteps.{spot_of, KeySpot, KeyStep, KeyFirst, KeyNext}
use Rattle.sb_rawlog.specs.Records.{Record, walk, before}
use Rattle.sb_rawlog.specs.Steps.{Comes, OpSpot, OpStep, TupleSpot, TupleStep}
use Rattle.sb_rawlog.proofs.Sessions.{author_is}
use Rattle.sb_rawlog.proofs.Spots.{same_kind-eq}

-- whose change it is and of which table, where those are tested with something else
of_table : (who : Who) (table : ℕ) (c : Change) (b : Bool) → (is_by who c && ((c.table == table) && b)) ≡ true → (author c ≡ who) × ((c.table ≡ table) × (b ≡ true))
of_table who table c b e =
    let by = and_parts (is_by who c) ((c.table == table) && b) e in let of = and_parts (c.table == table) b by.1 in
    (author_is who c by.0, (eqb-true c.table table of.0, of.1))

pub of_op : (who : Who) (table : ℕ) (kind : ChangeKind) (c : Change) → is_op who table kind c ≡ true → (author c ≡ who) × ((c.table ≡ table) × (c.kind ≡ kind))
of_op who table kind c e = let of = of_table who table c (same_kind c.kind kind) e in (of.0, (of.1.0, same_kind-eq c.kind kind of.1.1))

pub of_tuple : (who : Who) (table tuple : ℕ) (c : Change) → is_tuple who table tuple c ≡ true → (author c ≡ who) × ((c.table ≡ table) × (c.tuple ≡ tuple))
of_tuple who table tuple c e = let of = of_table who table c (c.tuple == tuple) e in (of.0, (of.1.0, eqb-true c.tuple tuple of.1.1))

module _ (ok : Spot → Type 0) (rs : List Record) (since : ℕ) (todo : List Record) where
  comes : (key : Key) (s : Spot) → (k : KeySpot ok rs key since todo s) → Comes (fits key) rs todo (spot_of s.place since k.found)
  comes key s k = record { change = k.found.1; here = k.here; first = k.first; kind = refl; tuple = refl }

  pub op_step : (who : Who) (table : ℕ) (kind : ChangeKind) (o : Option Spot) → KeyStep ok rs (OpKey who table kind) since todo o → OpStep ok rs who table kind since todo o
  op_step who table kind None h = h
  op_step who table kind (Some s) h =
      let of = of_op who table kind h.found.1 h.good in
      subst (OpSpot ok rs who table kind since todo) (sym h.is)
      (record { stands = subst ok h.is h.stands; who_is = of.0; table_is = of.1.0; kind_is = of.1.1; since_is = refl; comes = comes (OpKey who table kind) s h })

  pub tuple_step : (who : Who) (table tuple : ℕ) (o : Option Spot) → KeyStep ok rs (TupleKey who table tuple) since todo o → TupleStep ok rs who table tuple since todo o
  tuple_step who table tuple None h = h
  tuple_step who table tuple (Some s) h =
      let of = of_tuple who table tuple h.found.1 h.good in
      subst (TupleSpot ok rs who table tuple since todo) (sym h.is)
      (record { stands = subst ok h.is h.stands; who_is = of.0; table_is = of.1.0; tuple_is = of.1.1; since_is = refl; comes = comes (TupleKey who table tuple) s h })

-- the step among the first records of a list: among all, or among those before the spot's time
module _ (ok : Spot → Type 0) (rs : List Record) (key : Key) (end : ℕ) (o : Option Spot) where
  pub in_all : (since : ℕ) → end ≡ length rs → KeyStep ok rs key since (walk (fits key) since (take end rs)) o → KeyFirst ok rs key since o
  in_all since whole = subst (λ l. KeyStep ok rs key since (walk (fits key) since l) o) (ap (λ n. take n rs) whole ∙ take-length rs)

  pub in_front : (at : Spot) → before at.time rs ≡ take end rs → KeyStep ok rs key at.since (walk (fits key) at.since (take end rs)) o → KeyNext ok rs key at o
  in_front at front = subst (λ l. KeyStep ok rs key at.since (walk (fits key) at.since l) o) (sym front)
