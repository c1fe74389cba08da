use Rattle.std.proofs.Common.{◌≡◌, [], ◌∷◌, ◌++◌, List, length, refl, sym, ap, ◌∙◌, append_assoc, append-nil, arith}
use Rattle.std.specs.Vec.Iter.{into_iter_items}
use Rattle.sb_desk.specs.declared.stub.Stub.{Stub}
use Rattle.sb_host.specs.Finish.{gathered, rank, receipts_in, row_at}
use Rattle.sb_host.proofs.gathering.rows_of.Goals as goal

nothing_left : (l : List Stub) → length l ≡ 0 → l ≡ []
nothing_left [] h = refl
nothing_left (x ∷ xs) h = absurd (omega arith)

pub loop-stub-preserved : goal.loop-stub-preserved
loop-stub-preserved c =
    let at = c.loop-stub in
    let steps : into_iter_items at.stub-iterator ≡ c.in-Some.stub ∷ into_iter_items c.next.new.self = c.in-Some.ensures.steps.0 in
    record {
      count = c.in_ok-deal.ensures.length ∙ at.invariant.count;
      rows = λ t s few small.
          ap (λ l. l ++ gathered t s (into_iter_items c.next.new.self)) (c.in_ok-deal.ensures.rows t s few small)
          ∙ append_assoc (row_at at.rows.items (rank t s)) (receipts_in t s c.in-Some.stub) (gathered t s (into_iter_items c.next.new.self))
          ∙ ap (λ l. row_at at.rows.items (rank t s) ++ gathered t s l) (sym steps)
          ∙ at.invariant.rows t s few small;
      left = let was = at.invariant.left in let gone = c.in-Some.ensures.steps.1 in let short = ap length steps in omega arith;
    }

pub returns : goal.returns
returns c =
    let at = c.loop-stub in
    let empty : into_iter_items at.stub-iterator ≡ [] = nothing_left _ (sym at.invariant.left ∙ c.in-None.ensures.steps.0) in (
      at.invariant.count,
      λ t s few small.
          sym (append-nil (row_at at.rows.items (rank t s)))
          ∙ ap (λ l. row_at at.rows.items (rank t s) ++ gathered t s l) (sym empty)
          ∙ at.invariant.rows t s few small
          ∙ ap (gathered t s) c.into_iter-stub-iterator.ensures.into_iter_gives.0,
    )
