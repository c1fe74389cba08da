use Rattle.std.proofs.Common.{arith, subst, ◌≡◌, ◌+◌, List, ℕ, sym, ◌∙◌, ap, length-drop}
use Rattle.std.specs.Int.{w32, w64, to_be_bytes}
use Rattle.sqlite_disk.specs.Disk.{Holds}
use Rattle.sqlite_disk.specs.Digest.{digest}
use Rattle.sb_durable.specs.Head.{Head, IsHead, head_digest}
use Rattle.sb_durable.proofs.Finding.{filled_front}
use Rattle.sb_durable.proofs.Heads.{head_there, whole_head, no_other_head, moved, cut_within}
use Rattle.sb_durable.proofs.segment.beginning.read_head.Goals as goal

pub returns-then-digest_of-own-clause-damaged : goal.returns-then-digest_of-own-clause-damaged
returns-then-digest_of-own-clause-damaged g c is clean other rest tail fits same =
    let file = g.D.Disk.seen c.args.disk.now in
    let settings = c.fill.new.bytes.items in
    let filled = c.number_at-3.ensures.clean clean in
    let sized = c.fill.ensures.clean filled in
    let second = c.word_at.ensures.clean sized in
    let first = c.number_at-2.ensures.clean second in
    let marked = c.number_at.ensures.clean first in
    let after_number = c.number_at.ensures.seen in
    let after_before = c.number_at-2.ensures.seen ∙ after_number in
    let after_size = c.word_at.ensures.seen ∙ after_before in
    let after_fill = c.fill.ensures.seen ∙ after_size in
    let size = c.in_ok-size.field-0 in
    let texts = filled_front file settings 28 size c.in_ok-fill.ensures.size (λ some. subst (λ f. Holds f 28 settings) after_size (c.in_ok-fill.ensures.read filled some)) in
    let there = head_there file settings c.in_ok-number.number c.in_ok-before.before size c.in_ok-own.own (c.requires.marked marked)
    (c.in_ok-number.ensures.read first) (moved file _ (to_be_bytes w64 c.in_ok-before.before) 16 24 after_number (c.in_ok-before.ensures.read second)) (moved file _ (to_be_bytes w32 size) 24 28 after_before (c.in_ok-size.ensures.read sized))
    c.in_ok-fill.ensures.size texts (moved file _ (to_be_bytes w64 c.in_ok-own.own) (28 + size) (28 + size + 8) after_fill (c.in_ok-own.ensures.read clean)) in
    let head : Head = record { number = c.in_ok-number.number; before = c.in_ok-before.before; settings = settings } in
    let digests : c.digest_of.result ≡ head_digest head =
    c.digest_of.ensures.value ∙ ap (λ (l : List ℕ). digest 0 l) (c.deref-2.ensures.value ∙ c.in_ok-text.ensures)
    ∙ ap (λ (l : List ℕ). head_digest (let h : Head = record { number = c.in_ok-number.number; before = c.in_ok-before.before; settings = l } in h)) c.deref.ensures.value in
    let small : IsHead head = (c.in_ok-number.ensures.fits, c.in_ok-before.ensures.fits, omega (arith, c.in_ok-fill.ensures.size, c.if-size-gt-MAX_SETTINGS.false)) in
    no_other_head file _ tail rest head other c.in_ok-own.own c.digest_of.result small fits c.in_ok-own.ensures.fits c.digest_of.type_inv digests c.if-digest_of-own.true there same

pub returns-then-len-size-clause-cut_short : goal.returns-then-len-size-clause-cut_short
returns-then-len-size-clause-cut_short g c is clean =
    let file = g.D.Disk.seen c.args.disk.now in
    let second = c.word_at.ensures.clean clean in
    let first = c.number_at-2.ensures.clean second in
    let marked = c.number_at.ensures.clean first in
    let after_number = c.number_at.ensures.seen in
    let after_before = c.number_at-2.ensures.seen ∙ after_number in
    let size = c.in_ok-size.field-0 in
    cut_within file c.in_ok-number.number c.in_ok-before.before size (c.requires.marked marked) (c.in_ok-number.ensures.read first)
    (moved file _ (to_be_bytes w64 c.in_ok-before.before) 16 24 after_number (c.in_ok-before.ensures.read second)) (moved file _ (to_be_bytes w32 size) 24 28 after_before (c.in_ok-size.ensures.read clean))
    (omega (arith, c.if-size-gt-MAX_SETTINGS.false)) (omega (arith, c.if-len-size.true, c.requires.len marked, length-drop 28 file))

pub returns-clause-found : goal.returns-clause-found
returns-clause-found g c clean =
    let file = g.D.Disk.seen c.args.disk.now in
    let settings = c.fill.new.bytes.items in
    let filled = c.number_at-3.ensures.clean clean in
    let sized = c.fill.ensures.clean filled in
    let second = c.word_at.ensures.clean sized in
    let first = c.number_at-2.ensures.clean second in
    let marked = c.number_at.ensures.clean first in
    let after_number = c.number_at.ensures.seen in
    let after_before = c.number_at-2.ensures.seen ∙ after_number in
    let after_size = c.word_at.ensures.seen ∙ after_before in
    let after_fill = c.fill.ensures.seen ∙ after_size in
    let size = c.in_ok-size.field-0 in
    let texts = filled_front file settings 28 size c.in_ok-fill.ensures.size (λ some. subst (λ f. Holds f 28 settings) after_size (c.in_ok-fill.ensures.read filled some)) in
    let there = head_there file settings c.in_ok-number.number c.in_ok-before.before size c.in_ok-own.own (c.requires.marked marked)
    (c.in_ok-number.ensures.read first) (moved file _ (to_be_bytes w64 c.in_ok-before.before) 16 24 after_number (c.in_ok-before.ensures.read second)) (moved file _ (to_be_bytes w32 size) 24 28 after_before (c.in_ok-size.ensures.read sized))
    c.in_ok-fill.ensures.size texts (moved file _ (to_be_bytes w64 c.in_ok-own.own) (28 + size) (28 + size + 8) after_fill (c.in_ok-own.ensures.read clean)) in
    let head : Head = record { number = c.in_ok-number.number; before = c.in_ok-before.before; settings = settings } in
    let digests : c.digest_of.result ≡ head_digest head =
    c.digest_of.ensures.value ∙ ap (λ (l : List ℕ). digest 0 l) (c.deref-2.ensures.value ∙ c.in_ok-text.ensures)
    ∙ ap (λ (l : List ℕ). head_digest (let h : Head = record { number = c.in_ok-number.number; before = c.in_ok-before.before; settings = l } in h)) c.deref.ensures.value in
    (_, whole_head file _ head c.in_ok-own.own (sym c.if-digest_of-own.false ∙ digests) there)
