use Rattle.std.proofs.Common.{◌≡◌, ◌≤◌, ◌∙◌, ℕ, List, Some, length, option_map, slice_range, ap, sym, subst}
use Rattle.sb_syntax.specs.declared.cursor.Token.{Token}
use Rattle.sb_catalog.specs.ClauseCuts.{behind, end_of, inside}
use Rattle.sb_catalog.proofs.Cut.{cut_out}
use Rattle.sb_catalog.proofs.clauses.clause.Goals as goal

-- the clause is a part of the line
pub returns-in-Some : goal.returns-in-Some
returns-in-Some c d =
    let line = c.args.line.now in
    let place = c.in-Some.place in
    let rest = c.in-Some.rest.now in
    let e : behind c.args.word c.args.tokens.now ≡ Some (place, rest) = sym c.in-Some.ensures in
    let i = cut_out c.args.word c.requires line c.args.tokens.now d (place, rest) e in
    let stop = sym c.end_of.ensures in
    ap Some (c.slice.ensures (subst (λ (n : ℕ). place ≤ n) stop i.order) (subst (λ (n : ℕ). n ≤ length line) stop i.within) ∙ ap (slice_range line place) c.end_of.ensures)
    ∙ sym (ap (option_map (λ (b : ℕ × List Token). slice_range line b.0 (end_of b.0 (inside b.1)))) e)
