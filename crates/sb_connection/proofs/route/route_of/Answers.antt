use Rattle.std.proofs.Common.{◌∙◌, inr, sym, ap, subst, []}
use Rattle.std.specs.Prelude.{Option}
use Rattle.sb_wire.specs.Seen.{piece_seen}
use Rattle.sb_connection.specs.Conversation.{hosting_by, named_by}
use Rattle.sb_connection.specs.Routes.{RoutesBy}
use Rattle.sb_connection.specs.declared.first_line.SessionName.{SessionName}
use Rattle.sb_connection.proofs.Routes.{begins_last, begins_line, routes_by}
use Rattle.sb_connection.proofs.route.route_of.Goals as goal

-- a line is complete
pub returns-in-Some : goal.returns-in-Some
returns-in-Some c =
    let h = hosting_by c.args.keyed c.args.first c.args.tenants in
    let fed = c.in-Some.ensures in
    let begins = begins_line c.args.bytes.now fed.0 c.in-Some.field-0.now c.args.has_ended c.new-lines.result c.feed.new.self c.new-lines.ensures fed.1 fed.3 in
    routes_by h c.args.bytes.now c.args.has_ended c.feed.new.self c.route_by.result begins
    (subst (λ (n : Option SessionName). RoutesBy h n c.route_by.result) (c.named_in.ensures ∙ ap (named_by c.args.keyed) c.line.ensures) c.route_by.ensures)

-- no more come
pub returns-in-None : goal.returns-in-None
returns-in-None c =
    let h = hosting_by c.args.keyed c.args.first c.args.tenants in
    let begins = begins_last c.args.bytes.now c.args.has_ended c.new-lines.result c.feed.new.self c.new-lines.ensures c.if-has_ended.true c.in-None.ensures in
    routes_by h c.args.bytes.now c.args.has_ended c.feed.new.self c.route_by-in-None.result begins
    (subst (λ (n : Option SessionName). RoutesBy h n c.route_by-in-None.result) (c.named_in-in-None.ensures ∙ ap (named_by c.args.keyed) c.line-in-None.ensures) c.route_by-in-None.ensures)

-- the open line is too long
pub returns-in-TooLong : goal.returns-in-TooLong
returns-in-TooLong c = inr (sym (c.in-None.ensures.behind [] c.new-lines.ensures).1 ∙ sym c.line-in-None-2.ensures ∙ ap piece_seen c.in-TooLong.is)

-- it isn't complete
pub returns : goal.returns
returns c = (c.in-None.ensures.behind [] c.new-lines.ensures).0
