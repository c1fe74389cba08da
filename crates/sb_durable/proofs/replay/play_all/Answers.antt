use Rattle.std.proofs.Common.{◌≡◌, ◌++◌, ◌∷◌, List, [], ℕ, sym, ap, ◌∙◌, append_assoc, append-nil, subst, refl, Some, None, arith, length-append}
use Rattle.sb_durable.specs.Journal.{IsAt}
use Rattle.sb_durable.specs.Records.{Entry, bytes_of}
use Rattle.sb_durable.specs.Restart.{AreRecords}
use Rattle.sb_durable.proofs.Records.{are_back, are_front, gives, plays-append}
use Rattle.sb_durable.proofs.replay.play_all.Goals as goal

pub loop-init : goal.loop-init
loop-init g c = ([], refl, refl, λ clean head records has are. (records, refl, are, c.first_place-place.ensures head records [] has, has))

pub loop-preserved : goal.loop-preserved
loop-preserved g c =
    let i = c.loop.invariant in
    let p = c.in_default.ensures in (
      i.0 ++ p.0,
      plays-append g.S.Plays.plays _ _ _ i.0 p.0 i.1 p.1,
      omega (arith, i.2, p.2, length-append i.0 p.0),
      λ clean head records has are.
          let b = i.3 (c.read.ensures.clean clean) head records has are in
          let f = gives (IsAt g.D.Disk.seen g.D.Disk.may_leave c.read.new.self head) b.0 _ _ (Some c.in-Ok-Some.next) c.in-Ok-Some.field-0-is (c.in-Ok-Some.ensures.found clean head b.0 b.3) in
          let are_now = subst AreRecords f.3 b.2 in
          let batch : p.0 ≡ f.0 = p.3 f.0 (are_front f.0 f.1 are_now) (c.deref.ensures.value ∙ f.2) in
          (f.1, b.1 ∙ ap (λ (l : List Entry). i.0 ++ l) (f.3 ∙ ap (λ (l : List Entry). l ++ f.1) (sym batch)) ∙ sym (append_assoc i.0 p.0 f.1), are_back f.0 f.1 are_now, f.4, c.read.ensures.same head records [] b.4),
    )

pub returns-in-Ok-None : goal.returns-in-Ok-None
returns-in-Ok-None g c =
    let i = c.loop.invariant in (
      i.0,
      i.1,
      i.2,
      λ clean head records has are.
          let b = i.3 (c.read.ensures.clean clean) head records has are in
          let none = gives (IsAt g.D.Disk.seen g.D.Disk.may_leave c.read.new.self head) b.0 _ _ None c.in-Ok-None.field-0-is (c.in-Ok-None.ensures.found clean head b.0 b.3) in
          (sym (b.1 ∙ ap (λ (l : List Entry). i.0 ++ l) none ∙ append-nil i.0), c.read.ensures.same head records [] b.4),
    )
