use Rattle.std.proofs.Common.{◌≡◌, ◌++◌, ◌∷◌, List, [], ℕ, sym, ap, ◌∙◌, append_assoc, subst, refl, Some, None, arith, length, length-append}
use Rattle.sb_durable.specs.Journal.{contents_of, all_of}
use Rattle.sb_durable.specs.Records.{Entry, bytes_of}
use Rattle.sb_durable.specs.Replays.{PlaysAll}
use Rattle.sb_durable.specs.RowReaders.{last_of}
use Rattle.sb_durable.specs.Segment.{IsBehind, Bears, Gives, Reads, end_of, head_of}
use Rattle.sb_durable.proofs.Batches.{all-push}
use Rattle.sb_durable.proofs.Records.{plays-append}
use Rattle.sb_durable.proofs.RowReplays.{bound_by, behind_more, batch_read, none_read, over_others, stays_same, stays_then}
use Rattle.sb_durable.proofs.row_replay.play_segment.Goals as goal

pub loop-init : goal.loop-init
loop-init g c = ([], refl, omega arith, λ bound. c.first_place-place.ensures bound, λ clean others are knows. (others, refl), stays_same g.D.Disk.seen g.D.Disk.may_leave g.D.Disk.is_clean c.args.reader.now)

pub loop-preserved : goal.loop-preserved
loop-preserved g c =
    let disk = g.D.Disk in
    let i = c.loop.invariant in
    let p = c.in_ok-play_batch-in-Ok-Some.ensures in
    let own = last_of c.args.reader.now in
    let is : c.read.new.content.items ≡ bytes_of p.0 = sym c.deref.ensures.value ∙ p.4 in
    let bears = subst (λ o. Gives (end_of (last_of c.loop.reader)) c.loop.place c.read.new.content.items o) c.in-Ok-Some.field-0-is c.in-Ok-Some.ensures.bears in (
      i.0 ++ p.0 ∷ [],
      subst (λ (rs : List Entry). PlaysAll g.S.Plays.plays c.args.player.now rs c.play_batch.new.player) (sym (all-push i.0 p.0)) (plays-append g.S.Plays.plays _ _ _ (all_of i.0) p.0 i.1 p.1),
      omega (arith, i.2, p.2, ap length (all-push i.0 p.0), length-append (all_of i.0) p.0),
      λ bound. behind_more (head_of own) i.0 p.0 c.read.new.content.items c.loop.place c.in-Ok-Some.next is (i.3 bound) bears,
      λ clean others are knows.
          let before = i.4 (c.read.ensures.same.clean clean) others are knows in
          let now = i.5.knows (contents_of others) knows in
          let here = subst (λ h. IsBehind h (contents_of i.0) c.loop.place) (sym i.5.head) (i.3 (bound_by disk.seen own (contents_of others) knows)) in
          let reads = over_others disk.seen (last_of c.loop.reader) others i.0 before.0 before.1 now (λ all. c.in-Ok-Some.ensures.found clean (contents_of i.0) (contents_of before.0) all here) in
          let some = subst (λ o. Reads (head_of (last_of c.loop.reader)) (contents_of i.0) (contents_of before.0) c.read.new.content.items o) c.in-Ok-Some.field-0-is reads in
          batch_read _ others i.0 before.0 c.read.new.content.items c.in-Ok-Some.next before.1 are some p.0 (λ b of same. p.3 b of (c.deref.ensures.value ∙ same)),
      stays_then disk.seen disk.may_leave disk.is_clean c.args.reader.now c.loop.reader c.read.new.self i.5 c.read.ensures.same,
    )

pub returns-in-Ok-None-clause-plays : goal.returns-in-Ok-None-clause-plays
returns-in-Ok-None-clause-plays g c =
    let disk = g.D.Disk in
    let i = c.loop.invariant in
    let own = last_of c.args.reader.now in
    let ends = subst (λ o. Gives (end_of (last_of c.loop.reader)) c.loop.place c.read.new.content.items o) c.in-Ok-None.field-0-is c.in-Ok-None.ensures.bears in (
      i.0,
      i.1,
      i.2,
      record {
        binds = λ bound.
            let here = i.3 bound in
            let end = i.5.end in
            record { at = sym (ends.0 ∙ ap (λ e. e.at) end) ∙ here.at; chain = sym (ends.1 ∙ ap (λ e. e.chain) end) ∙ here.chain };
        are = λ clean others are knows.
            let before = i.4 (c.read.ensures.same.clean clean) others are knows in
            let now = i.5.knows (contents_of others) knows in
            let here = subst (λ h. IsBehind h (contents_of i.0) c.loop.place) (sym i.5.head) (i.3 (bound_by disk.seen own (contents_of others) knows)) in
            let reads = over_others disk.seen (last_of c.loop.reader) others i.0 before.0 before.1 now (λ all. c.in-Ok-None.ensures.found clean (contents_of i.0) (contents_of before.0) all here) in
            none_read _ others i.0 before.0 c.read.new.content.items before.1 (subst (λ o. Reads (head_of (last_of c.loop.reader)) (contents_of i.0) (contents_of before.0) c.read.new.content.items o) c.in-Ok-None.field-0-is reads);
      },
    )

pub returns-in-Ok-None-clause-same : goal.returns-in-Ok-None-clause-same
returns-in-Ok-None-clause-same g c = stays_then _ _ _ c.args.reader.now c.loop.reader c.read.new.self c.loop.invariant.5 c.read.ensures.same

pub returns-in-Err-clause-same : goal.returns-in-Err-clause-same
returns-in-Err-clause-same g c = stays_then _ _ _ c.args.reader.now c.loop.reader c.read.new.self c.loop.invariant.5 c.read.ensures.same
