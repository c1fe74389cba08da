use Rattle.std.proofs.Common.{◌≡◌, ◌++◌, List, [], ◌∷◌, length, refl, sym, ap, ◌∙◌, subst, append-nil, arith}
use Rattle.std.specs.List.Sorted.{IsPermutation}
use Rattle.std.proofs.lemmas.List.Sorted.{IsPermutation-append_comm, IsPermutation-trans}
use Rattle.std.specs.Vec.Iter.{into_iter_items}
use Rattle.std.proofs.lemmas.List.Elements.{All-append, All-cons, All-head, All-nil, All-tail}
use Rattle.sb_desk.specs.declared.receipts.Receipt.{Receipt}
use Rattle.sb_desk.specs.declared.stub.Stub.{Stub}
use Rattle.sb_host.specs.Finish.{gathered, receipts_in, row_at}
use Rattle.sb_host.specs.Renewal.{AreOf}
use Rattle.sb_host.proofs.Rows.{gathered-more}
use Rattle.sb_host.proofs.VolumeRows.{dealt, left_in, put_by}
use Rattle.sb_host.proofs.volume_stubs.rows_of_volume.Goals as goal

pub loop-stub-preserved-in-Err : goal.loop-stub-preserved-in-Err
loop-stub-preserved-in-Err c =
    let at = c.loop-stub in
    let inv = at.invariant in
    let t = c.args.tenant in
    let all = c.args.stubs.items in
    let x : Stub = c.in-Some.stub in
    let rest : List Stub = into_iter_items c.next.new.self in
    let steps : into_iter_items at.stub-iterator ≡ x ∷ rest = c.in-Some.ensures.steps.0 in
    let gone = c.in-Some.ensures.steps.1 in
    let short = ap length steps in
    let own : AreOf t (x ∷ rest) = subst (AreOf t) steps inv.rest in
    let same = c.in-Err.ensures.err in
    let items : c.push_reserved.new.self.items ≡ at.left.items ++ x ∷ [] = c.push_reserved.ensures.items ∙ ap (λ (y : Stub). at.left.items ++ y ∷ []) same.0 in
    let longer = c.push_reserved.ensures.len in
    let room = c.push_reserved.ensures.capacity in
    let was = inv.numbers in
    let places = inv.room in
    record {
      count = c.add_to.ensures.count;
      held = λ s small.
          let row = row_at at.rows.items s in
          let left = gathered t s at.left.items in
          let so_far : IsPermutation (gathered t s all) ((row ++ left) ++ (receipts_in t s x ++ gathered t s rest)) = subst (λ (l : List Stub). IsPermutation (gathered t s all) ((row ++ left) ++ gathered t s l)) steps (inv.held s small) in
          let more : gathered t s c.push_reserved.new.self.items ≡ left ++ receipts_in t s x = ap (gathered t s) items ∙ gathered-more t s at.left.items x in
          subst (λ (p : List Receipt × List Receipt). IsPermutation (gathered t s all) ((p.0 ++ p.1) ++ gathered t s rest)) (λ i. (sym (same.1 s) i, sym more i))
          (put_by (gathered t s all) row left (receipts_in t s x) (gathered t s rest) so_far);
      back = subst (AreOf t) (sym items) (All-append (λ (stub : Stub). stub.tenant ≡ t) at.left.items (x ∷ []) inv.back (All-cons (λ (stub : Stub). stub.tenant ≡ t) x [] (All-head (λ (stub : Stub). stub.tenant ≡ t) x rest own) (All-nil (λ (stub : Stub). stub.tenant ≡ t))));
      rest = All-tail (λ (stub : Stub). stub.tenant ≡ t) x rest own;
      numbers = omega arith;
      room = omega arith;
    }

pub loop-stub-preserved : goal.loop-stub-preserved
loop-stub-preserved c =
    let at = c.loop-stub in
    let inv = at.invariant in
    let t = c.args.tenant in
    let all = c.args.stubs.items in
    let x : Stub = c.in-Some.stub in
    let rest : List Stub = into_iter_items c.next.new.self in
    let steps : into_iter_items at.stub-iterator ≡ x ∷ rest = c.in-Some.ensures.steps.0 in
    let gone = c.in-Some.ensures.steps.1 in
    let short = ap length steps in
    let own : AreOf t (x ∷ rest) = subst (AreOf t) steps inv.rest in
    let was = inv.numbers in
    let places = inv.room in
    record {
      count = c.add_to.ensures.count;
      held = λ s small.
          let row = row_at at.rows.items s in
          let left = gathered t s at.left.items in
          let so_far : IsPermutation (gathered t s all) ((row ++ left) ++ (receipts_in t s x ++ gathered t s rest)) = subst (λ (l : List Stub). IsPermutation (gathered t s all) ((row ++ left) ++ gathered t s l)) steps (inv.held s small) in
          let more : row_at c.add_to.new.rows.items s ≡ row ++ receipts_in t s x = c.in_default-add_to.ensures.rows s ∙ ap (λ (l : List Receipt). row ++ l) (left_in t s x (All-head (λ (stub : Stub). stub.tenant ≡ t) x rest own)) in
          subst (λ (l : List Receipt). IsPermutation (gathered t s all) ((l ++ left) ++ gathered t s rest)) (sym more)
          (dealt (gathered t s all) row left (receipts_in t s x) (gathered t s rest) so_far);
      back = inv.back;
      rest = All-tail (λ (stub : Stub). stub.tenant ≡ t) x rest own;
      numbers = omega arith;
      room = omega arith;
    }

nothing_left : (l : List Stub) → length l ≡ 0 → l ≡ []
nothing_left [] h = refl
nothing_left (x ∷ xs) h = absurd (omega arith)

pub returns-clause-err : goal.returns-clause-err
returns-clause-err c =
    let at = c.loop-stub in
    let inv = at.invariant in
    let t = c.args.tenant in
    let all = c.args.stubs.items in
    let empty : into_iter_items at.stub-iterator ≡ [] = nothing_left _ (sym inv.numbers ∙ c.in-None.ensures.steps.0) in (
      λ own. c.put_stubs.ensures.of inv.back,
      λ s small.
          let row = row_at at.rows.items s in
          let left = gathered t s at.left.items in
          let so_far : IsPermutation (gathered t s all) (row ++ left) = subst (IsPermutation (gathered t s all)) (ap (λ (l : List Stub). (row ++ left) ++ gathered t s l) empty ∙ append-nil (row ++ left)) (inv.held s small) in
          subst (IsPermutation (gathered t s all)) (sym (c.put_stubs.ensures.own s small)) (IsPermutation-trans (gathered t s all) (row ++ left) (left ++ row) so_far (IsPermutation-append_comm row left)),
    )
