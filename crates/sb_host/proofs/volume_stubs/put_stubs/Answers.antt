use Rattle.std.proofs.Common.{◌≡◌, ℕ, ◌+◌, ◌++◌, List, [], ◌∷◌, length, refl, sym, ap, ◌∙◌, subst, append_assoc, append-nil, arith}
use Rattle.std.proofs.lemmas.List.Elements.{All-append}
use Rattle.std.specs.Vec.Iter.{into_iter_items}
use Rattle.std.specs.Prelude.{Vec}
use Rattle.std.specs.Global.{Global}
use Rattle.sb_desk.specs.declared.receipts.Receipt.{Receipt}
use Rattle.sb_desk.specs.declared.stub.Stub.{Stub}
use Rattle.sb_host.specs.Finish.{gathered}
use Rattle.sb_host.specs.Renewal.{AreOf}
use Rattle.sb_host.proofs.VolumeRows.{are_of, gathered_all, gathered_both, stubs_of}
use Rattle.sb_host.proofs.volume_stubs.put_stubs.Goals as goal

nothing_left : (l : List (Vec Receipt Global)) → length l ≡ 0 → l ≡ []
nothing_left [] h = refl
nothing_left (x ∷ xs) h = absurd (omega arith)

pub loop-receipts-preserved : goal.loop-receipts-preserved
loop-receipts-preserved c =
    let at = c.loop-receipts in
    let inv = at.invariant in
    let t = c.args.tenant in
    let n = at.number in
    let r = c.in-Some.receipts in
    let rest = into_iter_items c.next.new.self in
    let steps : into_iter_items at.receipts-iterator ≡ r ∷ rest = c.in-Some.ensures.steps.0 in
    let short = ap length steps in
    let gone = c.in-Some.ensures.steps.1 in
    let was = inv.left in
    let numbers = inv.numbers in
    let places = inv.places in
    let longer = c.push_reserved.ensures.len in
    let room = c.push_reserved.ensures.capacity in
    record {
      made = ap (λ (l : List Stub). l ++ stubs_of t (n + 1) rest) (c.push_reserved.ensures.items ∙ ap (λ (s : ℕ). at.stubs.items ++ record { tenant = t; session = s; receipts = r } ∷ []) c.new.ensures)
          ∙ append_assoc at.stubs.items (record { tenant = t; session = n; receipts = r } ∷ []) (stubs_of t (n + 1) rest)
          ∙ ap (λ (l : List (Vec Receipt Global)). at.stubs.items ++ stubs_of t n l) (sym steps)
          ∙ inv.made;
      left = omega arith;
      numbers = omega arith;
      places = omega arith;
    }

pub returns-clause-own : goal.returns-clause-own
returns-clause-own c =
    let at = c.loop-receipts in
    let t = c.args.tenant in
    let old = c.args.stubs.now.items in
    let empty : into_iter_items at.receipts-iterator ≡ [] = nothing_left _ (sym at.invariant.left ∙ c.in-None.ensures.steps.0) in
    let all : at.stubs.items ≡ old ++ stubs_of t 0 c.args.rows.items = sym (append-nil at.stubs.items) ∙ ap (λ (l : List (Vec Receipt Global)). at.stubs.items ++ stubs_of t at.number l) (sym empty) ∙ at.invariant.made in
    λ s small. ap (gathered t s) all ∙ gathered_both t s old (stubs_of t 0 c.args.rows.items) ∙ ap (λ (l : List Receipt). gathered t s old ++ l) (gathered_all t s c.args.rows.items)

pub returns-clause-of : goal.returns-clause-of
returns-clause-of c =
    let at = c.loop-receipts in
    let t = c.args.tenant in
    let old = c.args.stubs.now.items in
    let empty : into_iter_items at.receipts-iterator ≡ [] = nothing_left _ (sym at.invariant.left ∙ c.in-None.ensures.steps.0) in
    let all : at.stubs.items ≡ old ++ stubs_of t 0 c.args.rows.items = sym (append-nil at.stubs.items) ∙ ap (λ (l : List (Vec Receipt Global)). at.stubs.items ++ stubs_of t at.number l) (sym empty) ∙ at.invariant.made in
    λ own. subst (AreOf t) (sym all) (All-append (λ (stub : Stub). stub.tenant ≡ t) old (stubs_of t 0 c.args.rows.items) own (are_of t 0 c.args.rows.items))
