use Rattle.std.proofs.Common.{◌∙◌, ◌<◌, ap, arith, List, [], Bool, false, length, set, get_or, slice_set, length-append, length-take, length-drop}
use Rattle.std.proofs.lemmas.List.{get_or_default, length-map}
use Rattle.std.proofs.lemmas.List.Edits.{map_over_more}
use Rattle.sb_catalog.proofs.Entries.{Entry, lacks, value_at, value_read}
use Rattle.sb_catalog.proofs.rulesets.take_out.Goals as goal

-- one more set lacks the rule
pub loop-place-preserved : goal.loop-place-preserved
loop-place-preserved c =
    let all : List Entry = c.args.sets.now.entries in
    let es : List Entry = c.loop-place.sets.entries in
    let old : Entry = get_or es c.loop-place.place ([], []) in
    let within : c.loop-place.place < length all = omega (arith, c.len-place-end.ensures.len) in
    let held : c.loop-place.place < length es = rw c.loop-place.invariant (simp (length-append, length-map, length-take, length-drop) (omega arith)) in
    value_at es c.loop-place.place c.without.result ([], [])
    ∙ ap (λ (flags : List Bool). set es c.loop-place.place (old.0, flags)) (c.without.ensures.value ∙ ap (λ (flags : List Bool). slice_set flags c.args.rule false) (value_read es c.loop-place.place c.index.result.now ([], []) c.index.ensures))
    ∙ map_over_more (lacks c.args.rule) all es c.loop-place.place old within c.loop-place.invariant (get_or_default es c.loop-place.place ([], []) old held)
