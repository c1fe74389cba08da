use Rattle.std.proofs.Common.{◌∙◌, ◌<◌, ◌+◌, ◌*◌, ℕ, List, length, ap, refl, sym, arith}
use Rattle.std.specs.Prelude.{slice_get}
use Rattle.sb_durable.specs.Records.{entry_of}
use Rattle.sb_durable.specs.Recording.{renewed}
use Rattle.sb_durable.specs.Replays.{changed}
use Rattle.sb_durable.proofs.Calls.{refused_by, refused_full, refused_open, renews}
use Rattle.sb_durable.proofs.record_player.Player.renew.Goals as goal

pub returns-then-is_any_open-clause-refused : goal.returns-then-is_any_open-clause-refused
returns-then-is_any_open-clause-refused g c =
    let was = c.args.self.now in
    let t = c.args.line.tenant in
    let one = c.is_any_open.ensures.one c.if-is_any_open.true in
    refused_open g.H.Session.Calling.seen was.sessions.items was.stubs.items was.reaches.items (entry_of c.args.line) (c.is_renewal.ensures.0 c.if-not-is_renewal.false)
    (one.0, one.1, (one.2.0, ap (λ (l : List _). slice_get l (8 * t + one.0)) (sym c.deref.ensures.value) ∙ one.2.1))

pub returns-in-true-clause-renews : goal.returns-in-true-clause-renews
returns-in-true-clause-renews g c =
    let was = c.args.self.now in
    let t = c.args.line.tenant in
    let renewal = c.in-Ok.ensures.renews in
    let within : t < length was.stubs.items = omega (arith, c.requires, was.each) in
    let none = c.is_any_open.ensures.none c.if-is_any_open.false in
    renews g.H.Session.Calling.seen was.sessions.items was.stubs.items was.reaches.items (entry_of c.args.line) c.pass_opening.new.reaches.items c.index_mut-stubs.result.now c.renew_by.new.stubs
    (c.is_renewal.ensures.0 c.if-not-is_renewal.false)
    (λ s below. ap (λ (l : List _). slice_get l (8 * t + s)) (sym c.deref.ensures.value) ∙ none s below)
    within c.index_mut-stubs.ensures.value renewal.0
    (c.in-true.ensures.passed refl ∙ ap (λ (n : ℕ). changed (λ reach. renewed reach n) t was.reaches.items) renewal.1)

pub returns-in-false-clause-refused : goal.returns-in-false-clause-refused
returns-in-false-clause-refused g c =
    let was = c.args.self.now in
    let t = c.args.line.tenant in
    let none = c.is_any_open.ensures.none c.if-is_any_open.false in
    refused_full g.H.Session.Calling.seen was.sessions.items was.stubs.items was.reaches.items (entry_of c.args.line) (c.is_renewal.ensures.0 c.if-not-is_renewal.false)
    (λ s below. ap (λ (l : List _). slice_get l (8 * t + s)) (sym c.deref.ensures.value) ∙ none s below)

pub returns-in-Err-clause-refused : goal.returns-in-Err-clause-refused
returns-in-Err-clause-refused g c =
    let was = c.args.self.now in
    let t = c.args.line.tenant in
    let none = c.is_any_open.ensures.none c.if-is_any_open.false in
    refused_by g.H.Session.Calling.seen was.sessions.items was.stubs.items was.reaches.items (entry_of c.args.line) c.in-Err.why (c.is_renewal.ensures.0 c.if-not-is_renewal.false)
    (λ s below. ap (λ (l : List _). slice_get l (8 * t + s)) (sym c.deref.ensures.value) ∙ none s below) c.in-Err.ensures.refused
