-- The records of a tenant's life, volume by volume, make it as its last volume leaves it.
use Rattle.std.proofs.Common.{◌≡◌, ◌==◌, if◌then◌else◌, ℕ, Bool, true, false, List, [], ◌∷◌, ◌++◌, Option, Some, None, IsTrue, zero, suc, take, drop, refl, sym, ap, ◌∙◌, true≢false}
use Rattle.std.specs.List.{AllByRecursion, cons_option}
use Rattle.std.specs.Prelude.{map}
use Rattle.std.proofs.lemmas.Bool.{eq-eqb}
use Rattle.std.proofs.lemmas.List.{map-append, take-append-drop}
use Rattle.std.proofs.lemmas.List.Elements.{filter_map-append}
use Rattle.sb_tenant.specs.declared.bound.Bound.{Bound}
use Rattle.sb_durable.specs.Records.{Entry as Record}
use Rattle.sb_durable.specs.RecordedLives.{last_of, steps_in}
use Rattle.sb_durable.specs.Recording.{played, record_of}
use Rattle.sb_durable.specs.VolumeLives.{AreVolumes, steps_behind, LivesAreMade}
use Rattle.sb_durable.specs.VolumeRecords.{Operation, record_of_operation, volume_operation_of, own_operation, own_operations, volume, opening_steps, renewal_records, after_operations}
use Rattle.sb_durable.proofs.Replaying.{make_the_state}
use Rattle.sb_durable.proofs.Steps.{after-append}
use Rattle.sb_durable.proofs.Volumes.{stepped, joined, turned, after_steps, read_volume, front_legal, by_sessions}
use Rattle.sb_tenant.specs.declared.reply.Entry.{Entry}
use Rattle.sb_tenant.specs.Limits.{is_session}
use Rattle.sb_tenant.specs.State.{State, opening}
use Rattle.sb_tenant.specs.Tenant.{Tenant}
use Rattle.sb_tenant.specs.Trail.{IsLegal, IsTrail, state_after, state_of}

-- a step is read as it is written
by_step : (own session : Bool) (d : Operation) (other : Option Operation) → own ≡ true → session ≡ true → (if own then (if session then Some d else other) else None) ≡ Some d
by_step true true d other owned sure = refl
by_step false session d other owned sure = absurd (true≢false (sym owned))
by_step true false d other owned sure = absurd (true≢false (sym sure))

read_steps : (t : ℕ) (entries : List Entry) → AllByRecursion (λ e. IsTrue (is_session e.0)) (map played entries) → own_operations t (map (record_of t) entries) ≡ map stepped (map played entries)
read_steps t [] all = refl
read_steps t (e ∷ es) all =
    λ i. cons_option (by_step (t == t) (is_session e.session) (stepped (played e)) (volume_operation_of (record_of t e)) (eq-eqb t t refl) all.0 i) (read_steps t es all.1 i)

module _ (t : ℕ) (bound : Bound) where
  back_sessions : (n : ℕ) (before after : State) (trail : List Entry) → IsLegal t bound before trail after → AllByRecursion (λ e. IsTrue (is_session e.0)) (map played (drop n trail))
  back_sessions zero before after trail legal = by_sessions t bound before after trail legal
  back_sessions (suc n) before after [] legal = tt
  back_sessions (suc n) before after (e ∷ trail) (mid, next, legal) = back_sessions n mid after trail legal

  -- a trail in two parts makes its state
  in_parts : (n : ℕ) (trail : List Entry) → IsTrail t bound trail → state_after t bound (state_after t bound opening (map played (take n trail))) (map played (drop n trail)) ≡ state_of t bound trail
  in_parts n trail legal =
      sym (after-append t bound opening (map played (take n trail)) (map played (drop n trail)))
      ∙ ap (state_after t bound opening) (sym (map-append played (take n trail) (drop n trail)) ∙ ap (map played) (take-append-drop n trail))
      ∙ make_the_state t bound trail legal

  -- what is read of a further volume
  read_volume_of : (w : Tenant) (more : List Record) → w.id ≡ t → IsTrail t bound w.trail
      → own_operations t (renewal_records w ++ (steps_in t w ++ more)) ≡ volume (opening_steps w) ++ (map stepped (map played (drop w.volume.opening w.trail)) ++ own_operations t more)
  read_volume_of w more own legal =
      let n = w.volume.opening in
      let first : own_operations t (renewal_records w) ≡ volume (opening_steps w) =
      ap (λ (m : ℕ). own_operations t (map (record_of_operation m) (volume (opening_steps w)))) own
      ∙ read_volume t (opening_steps w) (by_sessions t bound opening _ (take n w.trail) (front_legal t bound n opening _ w.trail legal)) in
      let second = read_steps t (drop n w.trail) (back_sessions n opening _ w.trail legal) in
      filter_map-append (own_operation t) (renewal_records w) (steps_in t w ++ more)
      ∙ (λ i. first i ++ filter_map-append (own_operation t) (steps_in t w) more i)
      ∙ ap (λ (ds : List Operation). volume (opening_steps w) ++ (ds ++ own_operations t more)) second

  goes_on : (v : Tenant) (ws : List Tenant) → AreVolumes bound t ws → after_operations bound t (state_of t bound v.trail, None) (own_operations t (steps_behind bound t ws)) ≡ (state_of t bound (last_of v ws).trail, None)
  goes_on v [] are = refl
  goes_on v (w ∷ ws) are =
      let script = map played (drop w.volume.opening w.trail) in
      let rest = own_operations t (steps_behind bound t ws) in
      ap (after_operations bound t (state_of t bound v.trail, None)) (read_volume_of w (steps_behind bound t ws) are.0 are.1)
      ∙ turned bound t (state_of t bound v.trail, None) (opening_steps w) (map stepped script ++ rest)
      ∙ joined bound t (state_after t bound opening (opening_steps w), None) (map stepped script) rest
      ∙ ap (λ (p : State × Option State). after_operations bound t p rest) (after_steps bound t (state_after t bound opening (opening_steps w)) script)
      ∙ ap (λ (st : State). after_operations bound t (st, None) rest) (in_parts w.volume.opening w.trail are.1)
      ∙ goes_on w ws are.2

pub lives_are_made : (bound : Bound) (t : ℕ) → LivesAreMade bound t
lives_are_made bound t v ws life are =
    let rest = own_operations t (steps_behind bound t ws) in
    let all : steps_in t v ≡ map (record_of t) v.trail = ap (λ (n : ℕ). map (record_of t) (drop n v.trail)) (ap (λ x. x.opening) life.0) in
    ap (λ (p : State × Option State). p.0) (
    ap (after_operations bound t (opening, None)) (filter_map-append (own_operation t) (steps_in t v) (steps_behind bound t ws) ∙ ap (λ (rs : List Record). own_operations t rs ++ rest) all ∙ ap (λ (ds : List Operation). ds ++ rest) (read_steps t v.trail (by_sessions t bound opening _ v.trail are.1)))
    ∙ joined bound t (opening, None) (map stepped (map played v.trail)) rest
    ∙ ap (λ (p : State × Option State). after_operations bound t p rest) (after_steps bound t opening (map played v.trail) ∙ ap (λ (st : State). (st, None)) (make_the_state t bound v.trail are.1))
    ∙ goes_on t bound v ws are.2
    )
