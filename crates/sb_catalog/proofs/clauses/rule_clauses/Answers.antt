use Rattle.std.proofs.Common.{List, ℕ, Vec, refl, sym, subst}
use Rattle.std.specs.Global.{Global}
use Rattle.sb_syntax.specs.declared.cursor.Token.{Token}
use Rattle.sb_syntax.specs.declared.kind.TokenKind.TheVariants as k
use Rattle.sb_syntax.specs.Grammar.{IsQuery, max_depth}
use Rattle.sb_syntax.specs.Lex.{AreTokens}
use Rattle.sb_syntax.specs.Tree.{create_rule}
use Rattle.sb_catalog.specs.ClauseTexts.{IsActions, IsEvent, IsText}
use Rattle.sb_catalog.proofs.Texts.{actions_led, event_led, query_led, rule_of, where_there, written}
use Rattle.sb_catalog.proofs.clauses.rule_clauses.Goals as goal

-- each clause is what stands behind its word
pub returns : goal.returns
returns c r e =
    let line = c.args.line.now in
    let ts = c.as_slice-tokens.result.now in
    let d : AreTokens 0 line ts = subst (λ (ts : List Token). AreTokens 0 line ts) (sym c.as_slice-tokens.ensures.value) (c.in_ok-found.ensures (create_rule r) e) in
    let stands = rule_of line ts r d e in
    record {
      event = subst (λ (v : Vec ℕ Global). IsText IsEvent v.items (r.table, r.triggers)) (sym c.unwrap_or.ensures) (written IsEvent event_led (r.table, r.triggers) k.On refl line ts c.in_ok-event.event _ d (c.in_ok-event.ensures d) stands.event);
      condition = where_there (IsQuery max_depth) query_led r.condition k.If refl line ts c.in_ok-condition.condition d (c.in_ok-condition.ensures d) stands.condition;
      actions = subst (λ (v : Vec ℕ Global). IsText IsActions v.items r.actions) (sym c.unwrap_or-2.ensures) (written IsActions actions_led r.actions k.Then refl line ts c.in_ok-actions.actions _ d (c.in_ok-actions.ensures d) stands.actions);
    }
