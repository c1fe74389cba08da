-- The steps of a life, volume by volume.
use Rattle.std.proofs.Common.{◌≡◌, ℕ, ◌+◌, List, [], ◌∷◌, length, ap, arith}
use Rattle.std.specs.Prelude.{sum_by}
use Rattle.std.proofs.lemmas.List.Sums.{sum_by-cons}
use Rattle.sb_tenant.specs.declared.volume.Volume.{Volume}
use Rattle.sb_tenant.specs.Tenant.{Tenant}
use Rattle.sb_host.specs.Lives.{Follow, LivesAddUp, last_of, life_steps, volume_steps}

abbrev steps : Tenant → ℕ
steps own = volume_steps own.volume (length own.trail)

-- from a volume on
behind : (own : Tenant) (later : List Tenant) → Follow own later → life_steps (last_of own later).volume (length (last_of own later).trail) ≡ own.volume.before + sum_by steps (own ∷ later)
behind own [] h = omega arith
behind own (next ∷ later) h =
    let further = behind next later h.1 in
    let before : next.volume.before ≡ own.volume.before + steps own = ap (λ (v : Volume). v.before) h.0 in
    let sum = sum_by-cons steps own (next ∷ later) in
    omega (arith, further, before, sum)

pub all_volumes : LivesAddUp
all_volumes first later life =
    let sum = behind first later life.1 in
    let none : first.volume.before ≡ 0 = ap (λ (v : Volume). v.before) life.0 in
    omega (arith, sum, none)
