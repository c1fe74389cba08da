use Rattle.std.proofs.Common.{◌≡◌, ◌+◌, ◌-◌, ◌<◌, ℕ, suc, List, [], ◌∷◌, ◌++◌, refl, sym, ◌∙◌, append_assoc, arith}
use Rattle.sb_postgres.specs.Drafts.{places}
use Rattle.sb_postgres.proofs.query.draft.push_places.Goals as goal

one_more : (out whole : List ℕ) (place end : ℕ) → place < end → out ++ places place (end - place) ≡ whole → (out ++ place ∷ []) ++ places (place + 1) (end - (place + 1)) ≡ whole
one_more out whole place end l h =
    let k : end - place ≡ suc (end - (place + 1)) = omega arith in
    let e : out ++ places place (end - place) ≡ out ++ place ∷ places (place + 1) (end - (place + 1)) = rw k refl in
    append_assoc out (place ∷ []) (places (place + 1) (end - (place + 1))) ∙ sym e ∙ h

pub loop-place-preserved : goal.loop-place-preserved
loop-place-preserved c = rw c.in_ok-push.ensures.items (one_more c.loop-place.out.items _ c.loop-place.place (c.args.at + c.args.count) c.loop-place-test.true c.loop-place.invariant)
