-- a line is added, or it is the first bad one
use Rattle.std.proofs.Common.{arith, ap, sym, ◌∙◌, inl, inr, ◌+◌, length}
use Rattle.std.proofs.lemmas.Bool.{eqb-false}
use Rattle.std.proofs.lemmas.List.{length-drop}
use Rattle.std.proofs.lemmas.Result.{err_from_is_err_and}
use Rattle.std.specs.List.{position_or_len}
use Rattle.memchr.specs.Find.{is_byte}
use Rattle.sb_keys.specs.Seen.{table_of}
use Rattle.sb_keys.specs.Text.{newline, with_line}
use Rattle.sb_keys.proofs.Lines.{line_more, line_bad}
use Rattle.sb_keys.proofs.keys.Keys.read.Goals as goal

pub returns-in_err-add_line-clause-err : goal.returns-in_err-add_line-clause-err
returns-in_err-add_line-clause-err c =
    let told = err_from_is_err_and c.from_residual.result c.from_residual.ensures.1 in
    rw (told.1, told.2) (elim c.in_err-add_line.ensures.err [
      | inl e ↦ inl e
      | inr bad ↦ inr (c.loop-rest.line + 1, bad.0, sym c.loop-rest.invariant.rest ∙ line_bad (table_of c.loop-rest.keys) c.loop-rest.line c.loop-rest.rest.now (ap (with_line (table_of c.loop-rest.keys)) (sym c.at-cut.ensures.before) ∙ bad.1))
    ])

pub loop-rest-preserved : goal.loop-rest-preserved
loop-rest-preserved c =
    let good = ap (with_line (table_of c.loop-rest.keys)) (sym c.at-cut.ensures.before) ∙ c.in_ok-add_line.ensures.ok in
    record {
      rest = rw c.at-cut.ensures.behind (sym (line_more (table_of c.loop-rest.keys) _ c.loop-rest.line c.loop-rest.rest.now good) ∙ c.loop-rest.invariant.rest);
      counted = rw (c.at-cut.ensures.behind, length-drop (position_or_len (is_byte newline) c.loop-rest.rest.now + 1) c.loop-rest.rest.now) (let some = eqb-false (length c.loop-rest.rest.now) 0 (sym c.loop-rest-test.ensures) in omega (arith, some));
    }
