use Rattle.std.proofs.Common.{[], ◌∷◌, ◌++◌, drop, ◌∙◌}
use Rattle.sb_durable.specs.Head.{Head, head_bytes}
use Rattle.sb_durable.proofs.segment.begin.lay_out.Goals as goal

pub returns-in_err-write_head-clause-any_moment : goal.returns-in_err-write_head-clause-any_moment
returns-in_err-write_head-clause-any_moment g c clean only unbegun file left =
    let head : Head = record { number = c.args.number; before = c.args.before; settings = c.args.settings.now } in
    let are = c.deref.ensures.value ∙ c.in_ok-beginning.ensures.bytes in
    c.write_head.ensures.any_moment (drop 7 (head_bytes head ++ 0 ∷ [])) are (c.in-Ok.ensures.ready (c.write_head.ensures.clean clean)) c.in-Ok.ensures.durable file left

pub returns-clause-any_moment : goal.returns-clause-any_moment
returns-clause-any_moment g c clean only unbegun file left =
    let head : Head = record { number = c.args.number; before = c.args.before; settings = c.args.settings.now } in
    let are = c.deref.ensures.value ∙ c.in_ok-beginning.ensures.bytes in
    c.write_head.ensures.any_moment (drop 7 (head_bytes head ++ 0 ∷ [])) are (c.in-Ok.ensures.ready (c.write_head.ensures.clean clean)) c.in-Ok.ensures.durable file left

pub returns-clause-ok : goal.returns-clause-ok
returns-clause-ok g c clean =
    let head : Head = record { number = c.args.number; before = c.args.before; settings = c.args.settings.now } in
    let are = c.deref.ensures.value ∙ c.in_ok-beginning.ensures.bytes in
    c.in_ok-write_head.ensures.ok (drop 7 (head_bytes head ++ 0 ∷ [])) are (c.in-Ok.ensures.ready (c.write_head.ensures.clean clean)) ∙ are
