use Rattle.std.proofs.Common.{◌≡◌, ◌++◌, ◌-◌, ◌∙◌, ℕ, ap, drop, length, refl, rules, sym, take}
use Rattle.sb_postgres.specs.Frames.{packet}
use Rattle.sb_frontend.specs.Dialogues.{Dialogue}
use Rattle.sb_frontend.proofs.Connecting.{drop_behind, packet-answered, packet-cuts, packet-unreadable, packet-violates, no-memory-in, slice_left}
use Rattle.sb_frontend.proofs.connection_state.ConnectionState.start.Goals as goal

pub returns-in-Partial : goal.returns-in-Partial
returns-in-Partial g c =
    let n = c.self.inside.taken in
    let slice = c.as_slice.result.now in
    let left = slice_left n c.self.inside.input.items slice c.as_slice.ensures.value ∙ ap (λ (d : Dialogue). d.waiting) c.self.view_is in
    packet-cuts g.O.SessionSource.source c.args.self.now c.cut.new.self (take (length slice - n) (drop n slice)) c.requires left c.in-Partial.ensures c.cut.ensures

pub returns-in-BadLength : goal.returns-in-BadLength
returns-in-BadLength g c =
    let n = c.self.inside.taken in
    let slice = c.as_slice.result.now in
    let left = slice_left n c.self.inside.input.items slice c.as_slice.ensures.value ∙ ap (λ (d : Dialogue). d.waiting) c.self.view_is in
    packet-violates g.O.SessionSource.source c.args.self.now c.violate.new.self (take (length slice - n) (drop n slice)) c.requires left c.in-BadLength.ensures c.violate.ensures

pub returns-in-Answered : goal.returns-in-Answered
returns-in-Answered g c =
    let n = c.self.inside.taken in
    let input = c.self.inside.input.items in
    let rest = c.in-Whole.rest.now in
    let starting = ap (λ (d : Dialogue). d.at.phase) c.self.view_is ∙ c.requires in
    let whole : drop n input ≡ packet c.in-Whole.body.now ++ rest = sym (slice_left n input c.as_slice.result.now c.as_slice.ensures.value) ∙ c.in-Whole.ensures.0 in
    let all : c.len.result ≡ length input = search rules in
    let left : drop (c.len.result - length rest) input ≡ rest = ap (λ (m : ℕ). drop (m - length rest) input) all ∙ drop_behind n input (packet c.in-Whole.body.now) rest whole in
    rw (← c.self.view_is) (packet-answered g.O.SessionSource.source _ _ c.in-Whole.body.now rest starting whole left (refl, refl, refl) c.in-Answered.ensures)

pub returns-in-Unreadable : goal.returns-in-Unreadable
returns-in-Unreadable g c =
    let n = c.self.inside.taken in
    let input = c.self.inside.input.items in
    let slice = c.as_slice.result.now in
    let starting = ap (λ (d : Dialogue). d.at.phase) c.self.view_is ∙ c.requires in
    let none = c.in-Unreadable.ensures in
    rw (← c.self.view_is) (packet-unreadable g.O.SessionSource.source _ c.take_packet.new.self c.violate-in-Unreadable.new.self (take (length slice - n) (drop n slice)) c.in-Whole.body.now c.in-Whole.rest.now starting
    (slice_left n input slice c.as_slice.ensures.value) c.in-Whole.ensures.0 none.0 none.1 c.violate-in-Unreadable.ensures)

pub returns-in-NoMemory : goal.returns-in-NoMemory
returns-in-NoMemory g c = rw (← c.self.view_is) (no-memory-in g.O.SessionSource.source _ c.take_packet.new.self c.in-NoMemory.ensures)
