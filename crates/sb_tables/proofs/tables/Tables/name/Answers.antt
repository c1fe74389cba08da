use Rattle.std.proofs.Common.{◌≡◌, ◌∙◌, ℕ, suc, List, Bool, Some, cond, drop, option_map, slice_get, ap, sym, add-one, true, false, nat_eq, Option, Bor}
use Rattle.std.specs.Map.Iter.{deref_pair}
use Rattle.sb_tables.specs.Held.{Held, numbered}
use Rattle.sb_tables.proofs.TablesHeld.{Slotted, Named, name_of, name_from}
use Rattle.sb_tables.proofs.tables.Tables.name.Goals as goal

-- one entry more is passed, or it is the one
next : (slots : Slotted) (es : Named) (id i : ℕ) (r : Option (Bor (List ℕ) × Bor ℕ)) (e : Bor (List ℕ) × Bor ℕ) (b d : Bool) → name_of slots es id ≡ name_of slots (drop i es) id →
    option_map deref_pair r ≡ slice_get es i → r ≡ Some e → d ≡ nat_eq e.1.now id → d ≡ b → name_of slots es id ≡ cond b (Some e.0.now) (name_of slots (drop (suc i) es) id)
next slots es id i r e b d h g q p is =
    h ∙ name_from slots es id i (e.0.now, e.1.now) (sym g ∙ ap (option_map deref_pair) q)
    ∙ ap (λ (x : Bool). cond x (Some e.0.now) (name_of slots (drop (suc i) es) id)) (sym p ∙ is)

pub returns-then-eq : goal.returns-then-eq
returns-then-eq c =
    sym (next c.self.inside.slots c.self.inside.numbers.entries c.args.id c.loop-place.place _ c.unwrap.result true _ c.loop-place.invariant c.get_index.ensures.entry c.unwrap.ensures c.eq.ensures c.if-eq.true)
    ∙ ap (λ ts. option_map (λ (h : Held). h.name) (numbered ts c.args.id)) c.self.view_is

pub loop-place-preserved : goal.loop-place-preserved
loop-place-preserved c =
    rw add-one
    (next c.self.inside.slots c.self.inside.numbers.entries c.args.id c.loop-place.place _ c.unwrap.result false _ c.loop-place.invariant c.get_index.ensures.entry c.unwrap.ensures c.eq.ensures c.if-eq.false)
