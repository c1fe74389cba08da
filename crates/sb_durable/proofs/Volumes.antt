-- What records make, where some of them are of a volume that takes the place of the one before.
use Rattle.std.proofs.Common.{◌≡◌, ℕ, ◌==◌, ◌&&◌, if◌then◌else◌, Bool, true, false, List, [], ◌∷◌, ◌++◌, Option, Some, None, IsTrue, refl, ap, sym, ◌∙◌, inl, inr, true≢false, append-nil, subst, arith, ◌+◌, ◌-◌, zero, suc, take}
use Rattle.std.specs.List.{AllByRecursion, cons_option}
use Rattle.std.specs.Prelude.{map, option_map}
use Rattle.std.proofs.lemmas.Bool.{eq-eqb, le-ltb}
use Rattle.std.proofs.lemmas.List.Elements.{filter_map-append}
use Rattle.sb_tenant.specs.declared.bound.Bound.{Bound}
use Rattle.sb_durable.specs.Records.{Entry as Record}
use Rattle.sb_durable.specs.Restart as restart
use Rattle.sb_durable.specs.Recording.{played}
use Rattle.sb_durable.specs.VolumeRecords.{Operation, steps, begins, drafts, turns, record_of_operation, opening_steps, renewal_records, RenewalsAreVolumes, RenewalsStand, volume_operation_of, own_operation, own_operations, drafted, volume, after_step, after_operation, after_operations, OlderAreOfNoUse, DraftsAreNothing, VolumesStand, SessionsAlone, OldSegmentsCanGo}
use Rattle.sb_durable.proofs.Replaying.{one, make_the_state}
use Rattle.sb_tenant.specs.declared.reply.Entry.{Entry}
use Rattle.sb_tenant.specs.Limits.{is_session, session_count}
use Rattle.sb_tenant.specs.State.{State, opening}
use Rattle.sb_tenant.specs.Tenant as tenant
use Rattle.sb_tenant.specs.Tenant.{Tenant}
use Rattle.sb_tenant.specs.Trail.{IsLegal, replayed, state_after}

module _ (bound : Bound) (t : ℕ) where
  abbrev run : State × Option State → List Operation → State × Option State
  run p operations = after_operations bound t p operations

  pub joined : (p : State × Option State) (xs ys : List Operation) → run p (xs ++ ys) ≡ run (run p xs) ys
  joined p [] ys = refl
  joined p (d ∷ ds) ys = joined (after_operation bound t p d) ds ys

  -- the next volume grows by its own steps alone
  grows : (state next : State) (script : List (ℕ × List ℕ)) → run (state, Some next) (drafted script) ≡ (state, Some (state_after t bound next script))
  grows state next [] = refl
  grows state next (e ∷ es) = grows state (after_step bound t next e.0 e.1) es

  -- a whole volume makes what its script makes, whatever stood before
  pub turned : (p : State × Option State) (script : List (ℕ × List ℕ)) (back : List Operation) → run p (volume script ++ back) ≡ run (state_after t bound opening script, None) back
  turned p script back =
      joined p (volume script) back
      ∙ ap (λ (q : State × Option State). run q back) (joined (p.0, Some opening) (drafted script) (turns ∷ []) ∙ ap (λ (q : State × Option State). after_operation bound t q turns) (grows p.0 opening script))

  renewed : (p q : State × Option State) (front back : List Operation) (script : List (ℕ × List ℕ)) → run p (front ++ (volume script ++ back)) ≡ run q (front ++ (volume script ++ back))
  renewed p q front back script =
      joined p front (volume script ++ back)
      ∙ turned (run p front) script back
      ∙ sym (joined q front (volume script ++ back) ∙ turned (run q front) script back)

  made-append : (records more : List Record) → run (opening, None) (own_operations t (records ++ more)) ≡ run (run (opening, None) (own_operations t records)) (own_operations t more)
  made-append records more =
      ap (run (opening, None)) (filter_map-append (own_operation t) records more) ∙ joined (opening, None) (own_operations t records) (own_operations t more)

  pub older_are_of_no_use_to : OlderAreOfNoUse bound t
  older_are_of_no_use_to older newer has =
      ap (λ (p : State × Option State). p.0) (
      made-append older newer
      ∙ ap (run (run (opening, None) (own_operations t older))) has.split
      ∙ renewed (run (opening, None) (own_operations t older)) (opening, None) has.front has.back has.script
      ∙ ap (run (opening, None)) (sym has.split)
      )

  pub drafts_are_nothing_to : DraftsAreNothing bound t
  drafts_are_nothing_to records more is =
      let p = run (opening, None) (own_operations t records) in
      ap (λ (q : State × Option State). q.0) (made-append records more ∙ ap (run p) is.whole ∙ grows p.0 opening is.script)

  pub volumes_stand_of : VolumesStand bound t
  volumes_stand_of records more script is =
      let p = run (opening, None) (own_operations t records) in
      ap (λ (q : State × Option State). q.0) (made-append records more ∙ ap (run p) (is ∙ sym (append-nil (volume script))) ∙ turned p script [])

pub older_are_of_no_use : (bound : Bound) (t : ℕ) → OlderAreOfNoUse bound t
older_are_of_no_use bound t = older_are_of_no_use_to bound t

pub drafts_are_nothing : (bound : Bound) (t : ℕ) → DraftsAreNothing bound t
drafts_are_nothing bound t = drafts_are_nothing_to bound t

pub volumes_stand : (bound : Bound) (t : ℕ) → VolumesStand bound t
volumes_stand bound t = volumes_stand_of bound t

-- ---- records of sessions alone

abbrev pub stepped : ℕ × List ℕ → Operation
stepped e = steps e.0 e.1

by_tests : (own session : Bool) (s : ℕ) (line : List ℕ) (other : Option Operation) → IsTrue session
    → (if own then (if session then Some (steps s line) else other) else None) ≡ option_map stepped (if own && session then Some (s, line) else None)
by_tests true true s line other sure = refl
by_tests false true s line other sure = refl
by_tests true false s line other sure = absurd (true≢false (sym sure))
by_tests false false s line other sure = absurd (true≢false (sym sure))

cons_stepped : (found : Option (ℕ × List ℕ)) (rest : List (ℕ × List ℕ)) → cons_option (option_map stepped found) (map stepped rest) ≡ map stepped (cons_option found rest)
cons_stepped None rest = refl
cons_stepped (Some e) rest = refl

own_steps : (t : ℕ) (records : List Record) → AllByRecursion (λ r. IsTrue (is_session r.session)) records → own_operations t records ≡ map stepped (restart.own_records t records)
own_steps t [] all = refl
own_steps t (r ∷ rs) all =
    (λ i. cons_option (by_tests (t == r.tenant) (is_session r.session) r.session r.line (volume_operation_of r) all.0 i) (own_steps t rs all.1 i))
    ∙ cons_stepped (restart.own_record t r) (restart.own_records t rs)

pub after_steps : (bound : Bound) (t : ℕ) (state : State) (es : List (ℕ × List ℕ)) → after_operations bound t (state, None) (map stepped es) ≡ (state_after t bound state es, None)
after_steps bound t state [] = refl
after_steps bound t state (e ∷ es) = after_steps bound t (after_step bound t state e.0 e.1) es

pub sessions_alone : (bound : Bound) (t : ℕ) → SessionsAlone bound t
sessions_alone bound t records all =
    ap (λ (p : State × Option State). p.0) (
    ap (λ (ds : List Operation). after_operations bound t (opening, None) ds) (own_steps t records all)
    ∙ after_steps bound t opening (restart.own_records t records)
    )

-- ---- segments

pub old_segments_can_go : OldSegmentsCanGo
old_segments_can_go bound hosts older newer none t hosted = elim (none t hosted) [
  | inl nothing ↦ ap (λ (p : State × Option State). p.0) (made-append bound t older newer ∙ ap (λ (ds : List Operation). after_operations bound t (after_operations bound t (opening, None) ds) (own_operations t newer)) nothing)
  | inr has ↦ older_are_of_no_use bound t older newer has
]

-- ---- what is written is read

by_draft : (own past here : Bool) (x y z : Option Operation) → own ≡ true → past ≡ false → here ≡ true → (if own then (if past then x else (if here then y else z)) else None) ≡ y
by_draft true false true x y z owned passed there = refl
by_draft false past here x y z owned passed there = absurd (true≢false (sym owned))
by_draft true true here x y z owned passed there = absurd (true≢false passed)
by_draft true false false x y z owned passed there = absurd (true≢false (sym there))

by_mark : (own : Bool) (d : Operation) → own ≡ true → (if own then Some d else None) ≡ Some d
by_mark true d is = refl
by_mark false d is = absurd (true≢false (sym is))

module _ (t : ℕ) where
  itself : (t == t) ≡ true
  itself = eq-eqb t t refl

  read_draft : (s : ℕ) (line : List ℕ) → IsTrue (is_session s) → own_operation t (record_of_operation t (drafts s line)) ≡ Some (drafts s line)
  read_draft s line sure =
      let back : session_count + s - session_count ≡ s = omega arith in
      by_draft (t == t) (is_session (session_count + s)) (is_session (session_count + s - session_count)) _ (Some (drafts (session_count + s - session_count) line)) _
      itself (le-ltb (session_count + s) session_count (omega arith)) (ap is_session back ∙ sure)
      ∙ ap (λ (n : ℕ). Some (drafts n line)) back

  read_script : (script : List (ℕ × List ℕ)) → AllByRecursion (λ e. IsTrue (is_session e.0)) script
      → own_operations t (map (record_of_operation t) (drafted script ++ turns ∷ [])) ≡ drafted script ++ turns ∷ []
  read_script [] all = ap (λ (d : Option Operation). cons_option d []) (by_mark (t == t) turns itself)
  read_script (e ∷ es) all = λ i. cons_option (read_draft e.0 e.1 all.0 i) (read_script es all.1 i)

  pub read_volume : (script : List (ℕ × List ℕ)) → AllByRecursion (λ e. IsTrue (is_session e.0)) script → own_operations t (map (record_of_operation t) (volume script)) ≡ volume script
  read_volume script all = λ i. cons_option (by_mark (t == t) begins itself i) (read_script script all i)

-- ---- the opening of a legal trail

module _ (t : ℕ) (bound : Bound) where
  pub front_legal : (n : ℕ) (before after : State) (trail : List Entry) → IsLegal t bound before trail after → IsLegal t bound before (take n trail) (replayed t bound before (take n trail))
  front_legal zero before after trail legal = refl
  front_legal (suc n) before after [] legal = refl
  front_legal (suc n) before after (e ∷ trail) (mid, next, legal) = (
    mid,
    next,
    subst (λ (st : State). IsLegal t bound mid (take n trail) (replayed t bound st (take n trail))) (sym (one t bound before mid e next.1).1) (front_legal n mid after trail legal),
  )

  pub by_sessions : (before after : State) (trail : List Entry) → IsLegal t bound before trail after → AllByRecursion (λ e. IsTrue (is_session e.0)) (map played trail)
  by_sessions before after [] legal = tt
  by_sessions before after (e ∷ trail) (mid, next, legal) = (next.0, by_sessions mid after trail legal)

opening_read : (own : Tenant) → tenant.IsLegal own → own_operations own.id (renewal_records own) ≡ volume (opening_steps own)
opening_read own legal =
    read_volume own.id (opening_steps own)
    (by_sessions own.id own.bound opening _ (take own.volume.opening own.trail) (front_legal own.id own.bound own.volume.opening opening _ own.trail legal))

pub renewals_stand : RenewalsStand
renewals_stand own legal records =
    volumes_stand own.bound own.id records (renewal_records own) (opening_steps own) (opening_read own legal)
    ∙ make_the_state own.id own.bound (take own.volume.opening own.trail) (front_legal own.id own.bound own.volume.opening opening _ own.trail legal)

pub renewals_are_volumes : RenewalsAreVolumes
renewals_are_volumes own legal newer = record {
  front = [];
  script = opening_steps own;
  back = own_operations own.id newer;
  split = filter_map-append (own_operation own.id) (renewal_records own) newer ∙ ap (λ (ds : List Operation). ds ++ own_operations own.id newer) (opening_read own legal);
}
