use Rattle.std.proofs.Common.{◌≡◌, ◌*◌, ◌∙◌, [], ℕ, List, None, length, ap, sym, arith}
use Rattle.std.specs.Prelude.{replicate}
use Rattle.std.proofs.lemmas.List.{length-map, length-replicate}
use Rattle.sb_desk.specs.declared.stub.Stub.{Stub}
use Rattle.sb_durable.specs.Recording.{first_reach}
use Rattle.sb_durable.proofs.Calls.{begun, items_of}
use Rattle.sb_durable.proofs.record_player.Player.new.Goals as goal

pub returns : goal.returns
returns g c =
    let tenants : ℕ = g.H.Hosting.tenants c.args.host in
    let all : c.loop-place._place ≡ 8 * tenants = omega (arith, c.loop-place-test.false, c.loop-place.auto._place-end, c.tenants-tenants.ensures) in
    begun g.H.Session.Calling.seen tenants c.loop-place.sessions.items _ _
    (c.loop-place.invariant ∙ ap (λ (n : ℕ). replicate n None) all)
    (c.in_ok-stubs.ensures ∙ ap (λ (n : ℕ). let none : List Stub = [] in replicate n none) c.tenants-tenants.ensures)
    (c.in_ok-reaches.ensures ∙ ap (λ (n : ℕ). replicate n first_reach) c.tenants-tenants.ensures)

pub invariant_of-result : goal.invariant_of-result
invariant_of-result g c =
    let tenants : ℕ = c.tenants-tenants.result in
    let all : c.loop-place._place ≡ 8 * tenants = omega (arith, c.loop-place-test.false, c.loop-place.auto._place-end) in
    let sessions : length c.loop-place.sessions.items ≡ 8 * tenants = ap length c.loop-place.invariant ∙ length-replicate c.loop-place._place None ∙ all in
    let reaches : length c.in_ok-reaches.reaches.items ≡ tenants = ap length c.in_ok-reaches.ensures ∙ length-replicate tenants first_reach in
    let none : List Stub = [] in
    let stubs : length c.in_ok-stubs.stubs.items ≡ tenants = sym (length-map c.in_ok-stubs.stubs.items items_of) ∙ ap length c.in_ok-stubs.ensures ∙ length-replicate tenants none in
    record { few = c.requires; eight = omega (arith, sessions, reaches); each = stubs ∙ sym reaches }
