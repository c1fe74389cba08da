use Rattle.std.proofs.Common.{Ok, ap, ◌∙◌}
use Rattle.sb_frontend.proofs.Preparing.{error-first, error-second, none-first, one-alone, one-of-several, second-of}
use Rattle.sb_frontend.proofs.prepare.one_statement.Goals as goal

pub returns-in-Ok-None : goal.returns-in-Ok-None
returns-in-Ok-None c =
    let new = c.new-statements in
    let next = c.next_statement in
    none-first new.result next.new.self c.args.text.now next.result (new.ensures.place, new.ensures.text, new.ensures.found.0, new.ensures.found.1) next.ensures.next (c.in-Ok-None.is ∙ ap (λ o. Ok o) c.in-Ok-None.field-0-is)

pub returns-in-Err : goal.returns-in-Err
returns-in-Err c =
    let new = c.new-statements in
    let next = c.next_statement in
    error-first new.result next.new.self c.args.text.now next.result c.in-Err.error c.of_query.result (new.ensures.place, new.ensures.text, new.ensures.found.0, new.ensures.found.1) next.ensures.next c.in-Err.is c.of_query.ensures

pub returns-in-Ok-None-next_statement : goal.returns-in-Ok-None-next_statement
returns-in-Ok-None-next_statement c =
    let new = c.new-statements in
    let next = c.next_statement in
    let more = c.next_statement-2 in
    let first = c.in-Ok-Some.statement in
    let behind = second-of new.result next.new.self more.new.self c.args.text.now next.result more.result first (new.ensures.place, new.ensures.text, new.ensures.found.0, new.ensures.found.1) next.ensures.next
    (c.in-Ok-Some.is ∙ ap (λ o. Ok o) c.in-Ok-Some.field-0-is) more.ensures.next in
    one-alone next.new.self more.new.self c.args.text.now first more.result behind (c.in-Ok-None-next_statement.is ∙ ap (λ o. Ok o) c.in-Ok-None-next_statement.field-0-is)

pub returns-in-Ok-Some-next_statement : goal.returns-in-Ok-Some-next_statement
returns-in-Ok-Some-next_statement c =
    let new = c.new-statements in
    let next = c.next_statement in
    let more = c.next_statement-2 in
    let first = c.in-Ok-Some.statement in
    let behind = second-of new.result next.new.self more.new.self c.args.text.now next.result more.result first (new.ensures.place, new.ensures.text, new.ensures.found.0, new.ensures.found.1) next.ensures.next
    (c.in-Ok-Some.is ∙ ap (λ o. Ok o) c.in-Ok-Some.field-0-is) more.ensures.next in
    one-of-several next.new.self more.new.self c.args.text.now first c.in-Ok-Some-next_statement.field-0-0 more.result behind (c.in-Ok-Some-next_statement.is ∙ ap (λ o. Ok o) c.in-Ok-Some-next_statement.field-0-is)

pub returns-in-Err-next_statement : goal.returns-in-Err-next_statement
returns-in-Err-next_statement c =
    let new = c.new-statements in
    let next = c.next_statement in
    let more = c.next_statement-2 in
    let first = c.in-Ok-Some.statement in
    let behind = second-of new.result next.new.self more.new.self c.args.text.now next.result more.result first (new.ensures.place, new.ensures.text, new.ensures.found.0, new.ensures.found.1) next.ensures.next
    (c.in-Ok-Some.is ∙ ap (λ o. Ok o) c.in-Ok-Some.field-0-is) more.ensures.next in
    error-second next.new.self more.new.self c.args.text.now first more.result c.in-Err-next_statement.error c.of_query-in-Err-next_statement.result behind c.in-Err-next_statement.is c.of_query-in-Err-next_statement.ensures
