use Rattle.std.proofs.Common.{◌≡◌, ◌++◌}
use Rattle.std.specs.Prelude.{flat_map}
use Rattle.std.specs.Vec.Iter.{into_iter_items}
use Rattle.sb_replay.specs.Sheets.{texts_of}
use Rattle.sb_replay.proofs.finishing.text_of.Given as goal

abbrev pub invariant-loop-sheet : goal.invariant-loop-sheet
invariant-loop-sheet l =
    l.text.items ++ flat_map (λ text. text) (texts_of (into_iter_items l.sheet-iterator)) ≡ flat_map (λ text. text) (texts_of l.fn.sheets.items)
