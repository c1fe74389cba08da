use Rattle.std.proofs.Common.{ℕ, ◌+◌, ◌<◌, length, ap, ◌∙◌, arith}
use Rattle.std.proofs.lemmas.List.{take_all}
use Rattle.sb_tenant.specs.declared.reply.Entry.{Entry}
use Rattle.sb_desk.specs.Receipts.{receipts_of}
use Rattle.sb_host.specs.Finish.{row_at}
use Rattle.sb_host.proofs.Counting.{none_count}
use Rattle.sb_host.proofs.VolumeRows.{wants_next}
use Rattle.sb_host.proofs.volume_stubs.wanted_rows.Goals as goal

pub loop-place-init : goal.loop-place-init
loop-place-init c = record {
  count = c.in_ok-rows.ensures.0;
  rows = c.in_ok-rows.ensures.1;
  parts = none_count _ c.in_ok-rows.ensures.1;
}

pub loop-place-preserved : goal.loop-place-preserved
loop-place-preserved c =
    let inv = c.loop-place.invariant in
    let es = c.args.trail.now in
    let i = c.loop-place.place in
    let e : Entry = c.index-trail-place.result in
    let below : i < length es = omega arith in
    record {
      count = c.in_ok-add_wanted.ensures.count;
      rows = λ s. wants_next s i es e (row_at c.loop-place.rows.items s) (row_at c.add_wanted.new.rows.items s) below c.index-trail-place.is (inv.rows s) (c.in_ok-add_wanted.ensures.rows s);
      parts = c.in_ok-add_wanted.ensures.parts ∙ ap (λ (k : ℕ). k + 1) inv.parts;
    }

pub returns : goal.returns
returns c =
    let inv = c.loop-place.invariant in
    let es = c.args.trail.now in
    let i = c.loop-place.place in
    let parts = inv.parts in
    (inv.count, omega (arith, parts), λ s small. inv.rows s ∙ ap (receipts_of s 1) (take_all i es (omega arith)))
