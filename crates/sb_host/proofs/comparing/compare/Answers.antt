use Rattle.std.proofs.Common.{◌≡◌, ℕ, ◌+◌, ◌<◌, List, [], ◌∷◌, ◌++◌, length, take, sym, ap, ◌∙◌, subst, arith}
use Rattle.std.proofs.lemmas.List.{length-take-le, take_more}
use Rattle.sb_tenant.specs.declared.reply.Entry.{Entry}
use Rattle.sb_desk.specs.declared.receipts.Receipt.{Receipt}
use Rattle.sb_desk.specs.Receipts.{receipts_of}
use Rattle.sb_host.specs.Comparing.{IsSeen, wanted_of}
use Rattle.sb_host.proofs.Wanted.{wants_more}
use Rattle.sb_host.proofs.comparing.compare.Goals as goal

pub loop-place-preserved : goal.loop-place-preserved
loop-place-preserved c =
    let es = c.args.trail.now in
    let s = c.args.session in
    let i = c.loop-place.place in
    let e : Entry = c.index-trail-place.result in
    let below : i < length es = omega arith in
    let long : length (take i es) ≡ i = length-take-le i es (omega arith) in
    let number : i + 1 ≡ 1 + length (take i es) = omega (arith, long) in
    let entries : take i es ++ e ∷ [] ≡ take (i + 1) es = ap (λ (x : Entry). take i es ++ x ∷ []) c.index-trail-place.is ∙ sym (take_more es i e below) in
    let due : receipts_of s 1 (take i es) ++ wanted_of s (i + 1) e ≡ receipts_of s 1 (take (i + 1) es) =
    ap (λ (k : ℕ). receipts_of s 1 (take i es) ++ wanted_of s k e) number ∙ sym (wants_more s 1 (take i es) e) ∙ ap (receipts_of s 1) entries in
    record {
      seen = subst (λ (l : List Receipt). IsSeen c.args.receipts.now l c.look-seen.result) due (c.look-seen.ensures.seen (receipts_of s 1 (take i es)) c.loop-place.invariant.seen);
      few = c.look-seen.ensures.count;
    }
