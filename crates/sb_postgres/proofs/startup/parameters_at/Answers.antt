use Rattle.std.proofs.Common.{◌≡◌, ◌++◌, ◌∷◌, [], length, map, sym, ◌∙◌}
use Rattle.std.proofs.lemmas.Bool.{eqb-true, eqb-false}
use Rattle.sb_postgres.specs.declared.startup.Parameter.{Parameter}
use Rattle.std.proofs.lemmas.Result.{err_from_is_err_and}
use Rattle.std.proofs.lemmas.List.{map_push}
use Rattle.sb_postgres.specs.Startup.{pair_seen}
use Rattle.sb_postgres.specs.StartupReading.{parameters_at}
use Rattle.sb_postgres.proofs.Parameters.{name_fails, is_ended, value_fails, goes_on, none_ends}
use Rattle.sb_postgres.proofs.startup.parameters_at.Goals as goal

pub returns-in_err-name : goal.returns-in_err-name
returns-in_err-name c =
    let p = err_from_is_err_and c.from_residual.result c.from_residual.ensures.1 in
    rw (p.1, p.2) (name_fails c.in_err-name.field-0.0 (map pair_seen c.loop.found.items) (length c.args.bytes.now) c.loop.counter c.loop.rest.now (parameters_at (length c.args.bytes.now) c.args.bytes.now) c.loop-test.true c.in_err-name.ensures c.loop.invariant)

pub returns-then-is_empty : goal.returns-then-is_empty
returns-then-is_empty c = is_ended (map pair_seen c.loop.found.items) (length c.args.bytes.now) c.loop.counter c.loop.rest.now c.in_ok-name.name.now c.in_ok-name.behind.now (parameters_at (length c.args.bytes.now) c.args.bytes.now) c.loop-test.true c.in_ok-name.ensures (eqb-true _ _ (sym c.is_empty.ensures ∙ c.if-is_empty.true)) c.loop.invariant

pub returns-in_err-value : goal.returns-in_err-value
returns-in_err-value c =
    let p = err_from_is_err_and c.from_residual-in_err-value.result c.from_residual-in_err-value.ensures.1 in
    rw (p.1, p.2) (value_fails c.in_err-value.field-0.0 (map pair_seen c.loop.found.items) (length c.args.bytes.now) c.loop.counter c.loop.rest.now c.in_ok-name.name.now c.in_ok-name.behind.now (parameters_at (length c.args.bytes.now) c.args.bytes.now) c.loop-test.true c.in_ok-name.ensures (eqb-false _ _ (sym c.is_empty.ensures ∙ c.if-is_empty.false)) c.in_err-value.ensures c.loop.invariant)

pub loop-preserved : goal.loop-preserved
loop-preserved c =
    let p : Parameter = record { name = c.in_ok-name.name; value = c.in_ok-value.value } in
    let e : map pair_seen c.push.new.self.items ≡ map pair_seen c.loop.found.items ++ pair_seen p ∷ [] = rw c.in_ok-push.ensures.items (map_push _ c.loop.found.items p) in
    rw e (goes_on (map pair_seen c.loop.found.items) (length c.args.bytes.now) c.loop.counter c.loop.rest.now c.in_ok-name.name.now c.in_ok-name.behind.now c.in_ok-value.value.now c.in_ok-value.behind.now (parameters_at (length c.args.bytes.now) c.args.bytes.now) c.loop-test.true c.in_ok-name.ensures (eqb-false _ _ (sym c.is_empty.ensures ∙ c.if-is_empty.false)) c.in_ok-value.ensures c.loop.invariant)

pub returns : goal.returns
returns c = none_ends (map pair_seen c.loop.found.items) (length c.args.bytes.now) c.loop.counter c.loop.rest.now (parameters_at (length c.args.bytes.now) c.args.bytes.now) c.loop-test.false c.loop.invariant
