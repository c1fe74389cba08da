use Rattle.std.proofs.Common.{◌≡◌, Bool, true, false, MatchBool, [], ◌∷◌, Option, refl, sym, subst}
use Rattle.std.proofs.lemmas.Bool.{true≢false}
use Rattle.sb_desk.specs.Calls.{Session}
use Rattle.sb_host.specs.Finish.{IsInOrder}
use Rattle.sb_replay.specs.Parts.{ClosesBy}
use Rattle.sb_replay.proofs.closing.close_one.Goals as goal

-- an answer by its value
holds : (P : Type 0) (b : Bool) → MatchBool b P (P → ⊥) → b ≡ true → P
holds P true h e = h
holds P false h e = absurd (true≢false (sym e))

fails : (P : Type 0) (b : Bool) → MatchBool b P (P → ⊥) → b ≡ false → P → ⊥
fails P true h e = absurd (true≢false e)
fails P false h e = h

pub returns-then-not-are_in_order-clause-err : goal.returns-then-not-are_in_order-clause-err
returns-then-not-are_in_order-clause-err g c =
    let no = fails (IsInOrder c.list.result.now) c.are_in_order.result c.are_in_order.ensures c.if-not-are_in_order.true in
    (c.in-Some.session, c.close-stub.result, c.close-stub.ensures, refl, refl, λ up. no (subst IsInOrder (sym c.list.ensures) up))

pub returns-clause-ok : goal.returns-clause-ok
returns-clause-ok g c =
    let stub = c.close-stub.result in
    let order = subst IsInOrder c.list.ensures (holds (IsInOrder c.list.result.now) c.are_in_order.result c.are_in_order.ensures c.if-not-are_in_order.false) in (
      c.args.part.sheet,
      stub ∷ [],
      c.in_ok-add.ensures.ok,
      c.in_ok-add-2.ensures.ok,
      (refl, subst (λ (s : Option Session). ClosesBy s (stub ∷ [])) (sym c.in-Some.is) (stub, refl, c.close-stub.ensures, order)),
    )
