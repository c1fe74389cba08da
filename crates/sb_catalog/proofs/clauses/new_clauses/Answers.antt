use Rattle.std.proofs.Common.{List, refl, sym, subst}
use Rattle.sb_syntax.specs.declared.cursor.Token.{Token}
use Rattle.sb_syntax.specs.declared.kind.TokenKind.TheVariants as k
use Rattle.sb_syntax.specs.Grammar.{IsQuery, max_depth}
use Rattle.sb_syntax.specs.Lex.{AreTokens}
use Rattle.sb_syntax.specs.Tree.{alter_rule}
use Rattle.sb_catalog.specs.ClauseTexts.{IsActions}
use Rattle.sb_catalog.proofs.Texts.{actions_led, alteration_of, query_led, where_there}
use Rattle.sb_catalog.proofs.clauses.new_clauses.Goals as goal

-- each clause is what stands behind its word
pub returns : goal.returns
returns c r e =
    let line = c.args.line.now in
    let ts = c.as_slice-tokens.result.now in
    let d : AreTokens 0 line ts = subst (λ (ts : List Token). AreTokens 0 line ts) (sym c.as_slice-tokens.ensures.value) (c.in_ok-found.ensures (alter_rule r) e) in
    let stands = alteration_of line ts r d e in
    record {
      condition = where_there (IsQuery max_depth) query_led r.condition k.If refl line ts c.in_ok-condition.condition d (c.in_ok-condition.ensures d) stands.condition;
      actions = where_there IsActions actions_led r.actions k.Then refl line ts c.in_ok-actions.actions d (c.in_ok-actions.ensures d) stands.actions;
    }
