-- What a log in places is after a change is taken out, one is added, or only the number of its places is another.
use Rattle.std.proofs.lemmas.Bool.{cases_eq}
use Rattle.std.proofs.Common.{◌≡◌, ◌≢◌, ℕ, ◌+◌, ◌<◌, inl, inr, List, [], ◌∷◌, ◌++◌, reverse, length, get_or, set, Option, Some, None, refl, sym, ap, ◌∙◌, subst, arith, length-set, get_or-set_other}
use Rattle.sb_value.specs.declared.id.Who.{Who}
use Rattle.sb_value.specs.declared.change.Change.{Change}
use Rattle.sb_rawlog.specs.declared.node.Which.{Which}
use Rattle.sb_rawlog.specs.declared.node.Which.TheVariants.{Op, Tuple, Session}
use Rattle.sb_rawlog.specs.declared.node.Node.{Node}
use Rattle.sb_rawlog.specs.declared.node.Back.{Back}
use Rattle.sb_rawlog.specs.Links.{Member, taken_out, link_of}
use Rattle.sb_rawlog.specs.Logs.{entries, entry_in, shown, IsLog}
use Rattle.sb_rawlog.proofs.Logs.{added, same_log}
use Rattle.sb_rawlog.proofs.Orders.{length-taken}
use Rattle.sb_rawlog.specs.declared.key.Key.TheVariants.{Session as SessionKey}
use Rattle.sb_rawlog.specs.declared.spot.Spot.{Spot}
use Rattle.sb_rawlog.specs.Buckets.{bucket, by_which}
use Rattle.sb_rawlog.specs.Changes.{is_by}
use Rattle.sb_rawlog.specs.Places.{HoldSame, HoldsLog, TakesOut, node_for}
use Rattle.sb_rawlog.specs.Raw.{Raw, records_of, Stands}
use Rattle.sb_rawlog.specs.Records.{without, change_at}
use Rattle.sb_rawlog.specs.Search.{Hit}
use Rattle.sb_rawlog.specs.Steps.{SpotsStay, TakesNewest}
use Rattle.sb_rawlog.proofs.Seen.{get-shown, without-turned, reverse_first}
use Rattle.sb_rawlog.proofs.Sessions.{change_at-gone}
use Rattle.sb_rawlog.proofs.Steps.{seen_is, seen_long, first_places, newest_is, standing}

-- a spot stands where its place holds what it did
stands_still : (old new : Raw) (s : Spot) → get_or new.places s.place None ≡ get_or old.places s.place None → Stands old s → Stands new s
stands_still old new s same st = record { change = st.change; here = same ∙ st.here; who = st.who; table = st.table; kind = st.kind; tuple = st.tuple }

-- ---- a change is taken out

module _ (cs ds : List (Option (Node Change))) (ops tuples sessions ops' tuples' sessions' : List (Option ℕ)) (order : List ℕ) (clock room room' : ℕ) (holds : HoldsLog cs ops tuples sessions order clock)
    (place : ℕ) (change : Change) (t : TakesOut cs ds ops' tuples' sessions' order clock place change) where
  abbrev old : Raw
  old = record { places = shown cs; clock = clock; room = room }

  abbrev new : Raw
  new = record { places = shown ds; clock = clock; room = room' }

  pub without_is : records_of new ≡ without t.node.time (records_of old)
  without_is =
      seen_is ds ops' tuples' sessions' (taken_out place order) clock room' t.holds ∙ ap reverse t.left ∙ sym (without-turned t.node.time (entries cs order))
      ∙ ap (without t.node.time) (sym (seen_is cs ops tuples sessions order clock room holds))

  pub taken_spots : SpotsStay (Stands old) (Stands new) (records_of new)
  taken_spots s c st here = elim (cases_eq s.place place) [
    | inl e ↦
        let n = standing cs ops tuples sessions order clock room holds s st in
        let same : Some n.0 ≡ Some t.node = sym n.1.0 ∙ ap (λ q. get_or cs q None) e ∙ t.here in
        let one : n.0 ≡ t.node = cc in
        let time : s.time ≡ t.node.time = sym n.1.1.0 ∙ ap (λ (k : Node Change). k.time) one in
        let none : change_at s.time (records_of new) ≡ None = ap (change_at s.time) without_is ∙ ap (λ k. change_at k (without t.node.time (records_of old))) time ∙ change_at-gone t.node.time (records_of old) in
        absurd (cc)
    | inr ne ↦ stands_still old new s (get-shown ds s.place ∙ t.others s.place ne ∙ sym (get-shown cs s.place)) st
  ]

  pub taken_long : Member place order → length (records_of new) + 1 ≡ length (records_of old)
  taken_long m =
      let a = seen_long ds ops' tuples' sessions' (taken_out place order) clock room' t.holds in let b = seen_long cs ops tuples sessions order clock room holds in
      let c = length-taken cs place clock order holds.log.falls m in omega arith

pub takes_newest : (cs ds : List (Option (Node Change))) (ops tuples sessions ops' tuples' sessions' : List (Option ℕ)) (order : List ℕ) (clock room room' : ℕ) (holds : HoldsLog cs ops tuples sessions order clock)
    (who : Who) (s : Spot) (hit : Hit (is_by who) 0 cs (first_places cs ops tuples sessions order clock room holds (SessionKey who) 0) s) (change : Change)
    → TakesOut cs ds ops' tuples' sessions' order clock s.place change
    → TakesNewest who (records_of (record { places = shown cs; clock = clock; room = room })) (records_of (record { places = shown ds; clock = clock; room = room' })) (Some change)
takes_newest cs ds ops tuples sessions ops' tuples' sessions' order clock room room' holds who s hit change t =
    let same : Some t.node ≡ Some hit.node = sym t.here ∙ hit.here in
    let one : t.node ≡ hit.node = cc in
    let is : hit.node.item ≡ change = sym (t.result_is ∙ ap (λ (k : Node Change). k.item) one) in
    let rs = records_of (record { places = shown cs; clock = clock; room = room }) in let news = records_of (record { places = shown ds; clock = clock; room = room' }) in
    subst (λ c. TakesNewest who rs news (Some c)) is (
      newest_is cs ops tuples sessions order clock room holds who s hit,
      without_is cs ds ops tuples sessions ops' tuples' sessions' order clock room room' holds s.place change t ∙ ap (λ (k : Node Change). without k.time rs) one,
    )

-- ---- a change is added

module _ (cs : List (Option (Node Change))) (ops tuples sessions : List (Option ℕ)) (order : List ℕ) (clock room room' place : ℕ) (back : Back) (change : Change) (holds : HoldsLog cs ops tuples sessions order clock)
    (free : get_or cs place None ≡ None) (within : place < length cs) where
  abbrev in_list : Which → Change → ℕ
  in_list = bucket (length ops) (length tuples)

  abbrev node : Node Change
  node = node_for ops tuples sessions clock back change

  abbrev after : List (Option (Node Change))
  after = set cs place (Some node)

  abbrev before_that : Raw
  before_that = record { places = shown cs; clock = clock; room = room }

  abbrev added_one : Raw
  added_one = record { places = shown after; clock = clock + 1; room = room' }

  heads_are : (w : Which) → set (by_which ops tuples sessions w) (in_list w change) (Some place)
      ≡ by_which (set ops (in_list Op change) (Some place)) (set tuples (in_list Tuple change) (Some place)) (set sessions (in_list Session change) (Some place)) w
  heads_are Op = refl
  heads_are Tuple = refl
  heads_are Session = refl

  links_are : (w : Which) → link_of w node.links ≡ get_or (by_which ops tuples sessions w) (in_list w change) None
  links_are Op = refl
  links_are Tuple = refl
  links_are Session = refl

  pub holds_added : HoldsLog after (set ops (in_list Op change) (Some place)) (set tuples (in_list Tuple change) (Some place)) (set sessions (in_list Session change) (Some place)) (place ∷ order) (clock + 1)
  holds_added =
      let long = length-set ops (in_list Op change) (Some place) in
      let long_too = length-set tuples (in_list Tuple change) (Some place) in
      let ops1 = set ops (in_list Op change) (Some place) in let tuples1 = set tuples (in_list Tuple change) (Some place) in let sessions1 = set sessions (in_list Session change) (Some place) in
      let log : IsLog in_list after (by_which ops1 tuples1 sessions1) (place ∷ order) (clock + 1) =
      subst (λ (h : Which → List (Option ℕ)). IsLog in_list after h (place ∷ order) (clock + 1)) (λ j w. heads_are w j) (added in_list cs (by_which ops tuples sessions) order clock holds.log place free within node refl links_are).0 in
      record {
        buckets = omega (arith, holds.buckets);
        of_tuples = omega (arith, holds.of_tuples, long_too);
        of_sessions = length-set sessions (in_list Session change) (Some place) ∙ holds.of_sessions;
        log = subst (λ (k : ℕ × ℕ). IsLog (bucket k.0 k.1) after (by_which ops1 tuples1 sessions1) (place ∷ order) (clock + 1)) (λ j. (sym long j, sym long_too j)) log;
      }

  pub records_added : records_of added_one ≡ records_of before_that ++ (clock, change) ∷ []
  records_added =
      seen_is after _ _ _ (place ∷ order) (clock + 1) room' holds_added
      ∙ ap reverse (added in_list cs (by_which ops tuples sessions) order clock holds.log place free within node refl links_are).1
      ∙ reverse_first (clock, change) (entries cs order) ∙ ap (λ l. l ++ (clock, change) ∷ []) (sym (seen_is cs ops tuples sessions order clock room holds))

  pub added_spots : SpotsStay (Stands before_that) (Stands added_one) (records_of added_one)
  added_spots s c st here =
      let n = standing cs ops tuples sessions order clock room holds s st in
      let ne : s.place ≢ place = λ e. let a = n.1.0 in let b : get_or cs s.place None ≡ None = ap (λ q. get_or cs q None) e ∙ free in cc in
      stands_still before_that added_one s (get-shown after s.place ∙ ap entry_in (get_or-set_other cs place s.place (Some node) None ne) ∙ sym (get-shown cs s.place)) st

-- ---- the places hold the same, however many there are

module _ (cs ds : List (Option (Node Change))) (ops tuples sessions : List (Option ℕ)) (order : List ℕ) (clock room room' : ℕ) (same : HoldSame cs ds) (holds : HoldsLog cs ops tuples sessions order clock) where
  abbrev places_before : Raw
  places_before = record { places = shown cs; clock = clock; room = room }

  abbrev places_after : Raw
  places_after = record { places = shown ds; clock = clock; room = room' }

  kept : IsLog (bucket (length ops) (length tuples)) ds (by_which ops tuples sessions) order clock × (entries ds order ≡ entries cs order)
  kept = same_log (bucket (length ops) (length tuples)) cs ds (by_which ops tuples sessions) order clock same holds.log

  pub kept_holds : HoldsLog ds ops tuples sessions order clock
  kept_holds = record { buckets = holds.buckets; of_tuples = holds.of_tuples; of_sessions = holds.of_sessions; log = kept.0 }

  pub kept_records : records_of places_after ≡ records_of places_before
  kept_records = seen_is ds ops tuples sessions order clock room' kept_holds ∙ ap reverse kept.1 ∙ sym (seen_is cs ops tuples sessions order clock room holds)

  pub kept_spots : SpotsStay (Stands places_before) (Stands places_after) (records_of places_after)
  kept_spots s c st here = stands_still places_before places_after s (get-shown ds s.place ∙ ap entry_in (same s.place) ∙ sym (get-shown cs s.place)) st
