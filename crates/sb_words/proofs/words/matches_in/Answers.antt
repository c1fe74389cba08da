use Rattle.std.proofs.Common.{map, sym, subst}
use Rattle.std.proofs.lemmas.Result.{IfOk-weaker}
use Rattle.std.specs.Prelude.{IfSome, IsSome}
use Rattle.clap.specs.Words.{app_of}
use Rattle.sb_words.specs.Arguments.{verb_of}
use Rattle.sb_words.proofs.Found.{are_named, fails, finds}
use Rattle.sb_words.proofs.words.matches_in.Goals as goal

pub returns-clause-kinds : goal.returns-clause-kinds
returns-clause-kinds g c =
    let words = map g.S.AsStr.text c.args.words.now in
    fails (app_of c.in_ok-program.field-0) words c.in_ok-program.ensures c.try_get_matches_from.result c.try_get_matches_from.ensures.kinds

pub returns-clause-found : goal.returns-clause-found
returns-clause-found g c =
    let words = map g.S.AsStr.text c.args.words.now in
    let r = c.try_get_matches_from.result in
    IfOk-weaker r _ _ (λ m both. both.0) (finds (app_of c.in_ok-program.field-0) words c.in_ok-program.ensures r c.try_get_matches_from.ensures.matches)

pub returns-clause-command : goal.returns-clause-command
returns-clause-command g c =
    let words = map g.S.AsStr.text c.args.words.now in
    let r = c.try_get_matches_from.result in
    IfOk-weaker r _ _ (λ m both. both.1) (finds (app_of c.in_ok-program.field-0) words c.in_ok-program.ensures r c.try_get_matches_from.ensures.matches)

pub returns-clause-named : goal.returns-clause-named
returns-clause-named g c =
    let words = map g.S.AsStr.text c.args.words.now in
    let r = c.try_get_matches_from.result in
    IfOk-weaker r _ _ (λ m both. subst (λ s. IfSome s (λ named. IsSome (verb_of named.0))) (sym both.1) (are_named words))
    (finds (app_of c.in_ok-program.field-0) words c.in_ok-program.ensures r c.try_get_matches_from.ensures.matches)
