use Rattle.std.proofs.Common.{◌≡◌, ◌++◌, ◌∷◌, List, [], ℕ, length, ◌==◌, sym, ap, ◌∙◌, append_assoc, append-nil, length-append, arith, subst, IfSome}
use Rattle.std.proofs.lemmas.Bool.{eqb-true, true≢false}
use Rattle.sb_durable.specs.Records.{Entry, bytes_of, entry_bytes, entry_of}
use Rattle.sb_durable.proofs.Batches.{bytes_more}
use Rattle.sb_durable.specs.Replays.{PlaysAll}
use Rattle.sb_durable.specs.Restart.{AreRecords}
use Rattle.sb_durable.proofs.Records.{empty_by, found, none_left, plays_more}
use Rattle.sb_durable.proofs.replay.play_batch.Goals as goal

pub loop-left-preserved : goal.loop-left-preserved
loop-left-preserved g c =
    let i = c.loop-left.invariant in
    let e : Entry = entry_of c.in-Some.line in (
      i.0 ++ e ∷ [],
      plays_more g.S.Plays.plays _ _ _ i.0 e i.1 c.in_ok-play.ensures,
      omega (arith, i.2, c.in-Some-checked_add.ensures, length-append i.0 (e ∷ [])),
      λ entries are is.
          let b = i.3 entries are is in
          let f = found c.loop-left.left.now b.0 c.first_record.result b.2 b.3 (λ none. true≢false (ap (λ (l : List ℕ). length l == 0) (sym none) ∙ sym c.is_empty.ensures ∙ c.loop-left-test.true)) c.first_record.ensures.only (c.in-Some.line, c.in-Some.behind) c.in-Some.is in
          (f.0, b.1 ∙ ap (λ (l : List Entry). i.0 ++ l) f.1 ∙ sym (append_assoc i.0 (e ∷ []) f.0), f.2, f.3),
      bytes_more c.args.batch.now i.0 e c.loop-left.left.now c.in-Some.behind.now i.4 (subst (λ r. IfSome r (λ found. c.loop-left.left.now ≡ entry_bytes (entry_of found.0) ++ found.1.now)) c.in-Some.is c.first_record.ensures.found),
    )

pub returns : goal.returns
returns g c =
    let i = c.loop-left.invariant in (
      i.0,
      i.1,
      i.2,
      λ entries are is. let b = i.3 entries are is in sym (b.1 ∙ ap (λ (l : List Entry). i.0 ++ l) (none_left b.0 (sym b.3 ∙ empty_by c.loop-left.left.now (sym c.is_empty.ensures ∙ c.loop-left-test.false))) ∙ append-nil i.0),
      i.4 ∙ ap (λ (l : List ℕ). bytes_of i.0 ++ l) (empty_by c.loop-left.left.now (sym c.is_empty.ensures ∙ c.loop-left-test.false)) ∙ append-nil (bytes_of i.0),
    )
