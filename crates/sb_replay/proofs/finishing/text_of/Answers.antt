use Rattle.std.proofs.Common.{rules, ◌≡◌, ◌++◌, ℕ, List, length, sym, ap, ◌∙◌, append_assoc, append-nil}
use Rattle.std.specs.Prelude.{flat_map}
use Rattle.std.specs.Vec.Iter.{into_iter_items}
use Rattle.std.proofs.lemmas.List.{nil_from_length}
use Rattle.sb_wire.specs.Counts.{totals_line}
use Rattle.sb_replay.specs.Sheets.{Sheet, texts_of}
use Rattle.sb_replay.proofs.finishing.text_of.Goals as goal

abbrev joined : List Sheet → List ℕ
joined sheets = flat_map (λ text. text) (texts_of sheets)

pub loop-sheet-preserved : goal.loop-sheet-preserved
loop-sheet-preserved c =
    let at = c.loop-sheet in
    let rest = into_iter_items c.next.new.self in
    ap (λ (l : List ℕ). l ++ joined rest) c.in_ok-add_text.ensures
    ∙ append_assoc at.text.items c.in-Some-sheet.sheet.text (joined rest)
    ∙ ap (λ (l : List Sheet). at.text.items ++ joined l) (sym c.in-Some-sheet.ensures.steps.0)
    ∙ at.invariant

pub returns : goal.returns
returns c =
    let at = c.loop-sheet in
    let none = nil_from_length (into_iter_items at.sheet-iterator) (sym at.sheet-iterator.rest.ok.0 ∙ c.in-None.ensures.steps.0) in
    let all : at.text.items ≡ joined c.args.sheets.items = sym (append-nil at.text.items) ∙ ap (λ (l : List Sheet). at.text.items ++ joined l) (sym none) ∙ at.invariant in
    let count : c.len.result ≡ length c.args.report.now.trails.items = search rules in
    c.in_ok-write_totals.ensures
    ∙ ap (λ (n : ℕ). at.text.items ++ totals_line n c.in-Some.steps) count
    ∙ ap (λ (l : List ℕ). l ++ totals_line (length c.args.report.now.trails.items) c.in-Some.steps) all
    ∙ ap (λ (n : ℕ). joined c.args.sheets.items ++ totals_line (length c.args.report.now.trails.items) n) c.in-Some.ensures
