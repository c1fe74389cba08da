use Rattle.std.proofs.Common.{◌≡◌, ℕ, List, [], ◌∷◌, ◌++◌, ap, ◌∙◌, subst, arith}
use Rattle.sb_desk.specs.Seats.{NoneTwice}
use Rattle.sb_desk.proofs.SeatSteps.{joins, looks, twice}
use Rattle.sb_desk.proofs.seats.differ.Goals as goal

pub join_seat-requires : goal.join_seat-requires
join_seat-requires c = (c.requires.one.0, c.requires.other.0, ap (λ m. m.1) c.requires.other.1, omega (arith, c.requires.words), joins c.args.one.id c.args.one.me.0 c.args.other.id c.args.other.me.0)

pub load-requires : goal.load-requires
load-requires c = (c.join_seat.ensures.0 ∙ c.requires.one.0, omega (arith, c.requires.words), looks c.args.table.now.table_id.slots c.join_seat.new.seat.id c.join_seat.new.seat.me 0)

pub returns : goal.returns
returns c =
    let n = c.args.number in
    let mine : c.args.one.me.0 ≡ n ∷ [] = ap (λ m. m.0) c.requires.one.1 in
    let theirs : c.args.other.me.0 ≡ n ∷ [] = ap (λ m. m.0) c.requires.other.1 in
    let joined : c.join_seat.new.seat.me.0 ≡ n ∷ n ∷ [] = ap (λ m. m.0) c.join_seat.ensures.2 ∙ (λ i. mine i ++ theirs i) in
    absurd (twice n (subst (λ (v : List ℕ). NoneTwice (v ∷ [])) joined c.load.ensures.2.1))
