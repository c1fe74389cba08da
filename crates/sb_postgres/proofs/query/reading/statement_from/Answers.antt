use Rattle.std.proofs.Common.{◌≡◌, ℕ, ◌+◌, ◌-◌, List, length, drop, take, Ok, Err, ap, sym, ◌∙◌, subst, arith}
use Rattle.std.proofs.lemmas.Bool.{eqb-true, eqb-false}
use Rattle.std.proofs.lemmas.Result.{err_from_is_err_and}
use Rattle.sb_postgres.specs.declared.query.actions.Scope.{Scope}
use Rattle.sb_postgres.specs.declared.query.draft.Draft.{Draft}
use Rattle.sb_postgres.specs.declared.query.piece.PieceKind.{PieceKind}
use Rattle.sb_postgres.specs.Actions.{kind_in, scoped}
use Rattle.sb_postgres.specs.Drafting.{Makes, drafted}
use Rattle.sb_postgres.specs.Drafts.{Drafted, nothing, drafted_lines, with_piece}
use Rattle.sb_postgres.specs.Scan.{pieces}
use Rattle.sb_postgres.proofs.Fine.{Fine, stays_fine, nothing-fine}
use Rattle.sb_postgres.proofs.Places.{Stands, keeps, nothing-stands}
use Rattle.sb_postgres.proofs.Turns.{here, goes_on, no_piece, no_place, ends_line, leaves_out, ends_last, is_done}
use Rattle.sb_postgres.proofs.query.reading.statement_from.Goals as goal
use Rattle.sb_postgres.proofs.query.reading.statement_from.Goals.{in-Semicolon+else-not-is_empty, in_default+in_ok-add-in_default}

pub returns-in_err-found-clause-first : goal.returns-in_err-found-clause-first
returns-in_err-found-clause-first c =
    let p = err_from_is_err_and c.from_residual.result c.from_residual.ensures.1 in
    rw (p.1, p.2) (no_piece c.args.text.now c.loop-at.scope c.loop-at.at (drafted c.loop-at.draft) c.in_err-found.field-0.0 _ c.loop-at-test.true c.in_err-found.ensures.value c.loop-at.invariant.so_far)

pub returns-then-not-is_empty-clause-first : goal.returns-then-not-is_empty-clause-first
returns-then-not-is_empty-clause-first c =
    let text = c.args.text.now in
    let at = c.loop-at.at in
    let len = c.in_ok-found.len in
    let h = here text at c.in_ok-found.found len c.loop-at-test.true c.in_ok-found.ensures.within.0 c.in_ok-found.ensures.value in
    rw (c.into_statement.ensures.line, c.into_statement.ensures.origins)
    (ends_line text _ c.loop-at.scope at c.in_ok-found.found len (drafted c.loop-at.draft) _ h (sym c.kind_in-kind.ensures ∙ c.in-Semicolon.is) (eqb-false _ _ (sym c.is_empty.ensures ∙ c.if-not-is_empty.true)) c.loop-at.invariant.so_far)

pub returns-in_err-add-in_default : goal.returns-in_err-add-in_default
returns-in_err-add-in_default c =
    let p = err_from_is_err_and c.from_residual-in_err-add-in_default.result c.from_residual-in_err-add-in_default.ensures.1 in
    let text = c.args.text.now in
    let at = c.loop-at.at in
    let len = c.in_ok-found.len in
    let bytes : List ℕ = take len (take (length text - at) (drop at text)) in
    let h = here text at c.in_ok-found.found len c.loop-at-test.true c.in_ok-found.ensures.within.0 c.in_ok-found.ensures.value in
    let made = subst (λ (kind : PieceKind). Makes (with_piece kind at bytes (drafted c.loop-at.draft)) (drafted c.add.new.self) (Err c.in_err-add-in_default.field-0.0)) c.kind_in-kind.ensures c.in_err-add-in_default.ensures in
    rw (p.1, p.2) (record {
      first = no_place text _ c.loop-at.scope at c.in_ok-found.found len (drafted c.loop-at.draft) (drafted c.add.new.self) c.in_err-add-in_default.field-0.0 _ h (λ s. c.in_default.not-Semicolon (c.kind_in-kind.ensures ∙ s)) made c.loop-at.invariant.so_far;
      origins = tt;
      line = tt;
      within = tt;
    })

pub loop-at-preserved : goal.loop-at-preserved
loop-at-preserved c =
    let text = c.args.text.now in
    let at = c.loop-at.at in
    let len = c.in_ok-found.len in
    let found = c.in_ok-found.found in
    let scope = c.loop-at.scope in
    let bytes : List ℕ = take len (take (length text - at) (drop at text)) in
    let behind = pieces 0 (at + len) (drop (at + len) text) in
    let h = here text at found len c.loop-at-test.true c.in_ok-found.ensures.within.0 c.in_ok-found.ensures.value in
    elim c.match-kind.branch [
      | in-Semicolon+else-not-is_empty w ↦
          let e : drafted c.match-kind.draft ≡ nothing = ap drafted w.draft-is ∙ w.clear.ensures in
          let left = leaves_out text _ scope at found len (drafted c.loop-at.draft) _ h (sym c.kind_in-kind.ensures ∙ w.in-Semicolon.is) (eqb-true _ _ (sym w.is_empty.ensures ∙ w.if-not-is_empty.false)) c.loop-at.invariant.so_far in
          record {
            so_far = ap (λ (d : Drafted). drafted_lines d (scoped c.after-scope.result behind)) e ∙ (ap (λ (s : Scope). drafted_lines nothing (scoped s behind)) c.after-scope.ensures.is ∙ left);
            stands = subst (Stands text) (sym e) (nothing-stands text);
            fine = subst Fine (sym e) nothing-fine;
            behind = omega arith;
            begun = λ same. absurd (omega (arith, same, c.in_ok-found.ensures.within.0, c.loop-at.invariant.behind));
            deep = omega (arith, c.after-scope.ensures.deep, c.loop-at.invariant.deep, c.in_ok-found.ensures.within.0);
            within = omega (arith, c.in_ok-found.ensures.within.1);
          }
      | in_default+in_ok-add-in_default w ↦
          let made = subst (λ (kind : PieceKind). with_piece kind at bytes (drafted c.loop-at.draft) ≡ Ok (drafted w.add.new.self)) c.kind_in-kind.ensures w.in_ok-add-in_default.ensures in
          let on = goes_on text _ scope at found len (drafted c.loop-at.draft) _ _ h (λ s. w.in_default.not-Semicolon (c.kind_in-kind.ensures ∙ s)) made c.loop-at.invariant.so_far in
          record {
            so_far = ap (λ (d : Drafted). drafted_lines d (scoped c.after-scope.result behind)) (ap drafted w.draft-is) ∙ (ap (λ (s : Scope). drafted_lines (drafted w.add.new.self) (scoped s behind)) c.after-scope.ensures.is ∙ on);
            stands = subst (λ (d : Draft). Stands text (drafted d)) (sym w.draft-is) (keeps text scope at found len (drafted c.loop-at.draft) _ c.loop-at-test.true c.in_ok-found.ensures.value made c.loop-at.invariant.stands);
            fine = subst (λ (d : Draft). Fine (drafted d)) (sym w.draft-is) (stays_fine (kind_in scope found bytes) at bytes (drafted c.loop-at.draft) _ made c.loop-at.invariant.fine);
            behind = omega arith;
            begun = λ same. absurd (omega (arith, same, c.in_ok-found.ensures.within.0, c.loop-at.invariant.behind));
            deep = omega (arith, c.after-scope.ensures.deep, c.loop-at.invariant.deep, c.in_ok-found.ensures.within.0);
            within = omega (arith, c.in_ok-found.ensures.within.1);
          }
    ]

pub returns-then-is_empty-clause-first : goal.returns-then-is_empty-clause-first
returns-then-is_empty-clause-first c = is_done c.args.text.now c.loop-at.scope c.loop-at.at (drafted c.loop-at.draft) _ c.loop-at-test.false (eqb-true _ _ (sym c.is_empty-2.ensures ∙ c.if-is_empty.true)) c.loop-at.invariant.so_far

pub returns-else-is_empty-clause-first : goal.returns-else-is_empty-clause-first
returns-else-is_empty-clause-first c =
    rw (c.into_statement-else-is_empty.ensures.line, c.into_statement-else-is_empty.ensures.origins)
    (ends_last c.args.text.now c.loop-at.scope c.loop-at.at (drafted c.loop-at.draft) _ c.loop-at-test.false (eqb-false _ _ (sym c.is_empty-2.ensures ∙ c.if-is_empty.false)) c.loop-at.invariant.so_far)
