-- What the steps of a walk over a log in places answer, from what the search along a list found.
use Rattle.std.proofs.lemmas.Bool.{and_parts}
use Rattle.std.proofs.Common.{◌≡◌, ℕ, ◌%◌, Bool, true, ◌&&◌, ◌==◌, nat_le, List, [], ◌∷◌, reverse, length, get_or, Option, Some, None, MatchOption, refl, sym, ap, ◌∙◌, subst, arith, eq-eqb}
use Rattle.std.specs.List.{filter}
use Rattle.sb_value.specs.declared.id.Who.{Who}
use Rattle.sb_value.specs.declared.change.ChangeKind.{ChangeKind}
use Rattle.sb_value.specs.declared.change.ChangeKind.TheVariants.{Inserted, Deleted, Updated}
use Rattle.sb_value.specs.declared.change.Change.{Change}
use Rattle.sb_rawlog.specs.declared.node.Which.{Which}
use Rattle.sb_rawlog.specs.declared.node.Node.{Node}
use Rattle.sb_rawlog.specs.Links.{link, time_in, time_at, item_in, item_at, IsChain}
use Rattle.sb_rawlog.specs.Logs.{entries, entry_in, shown, contents, bucket_in, in_bucket}
use Rattle.sb_rawlog.proofs.Logs.{bucket_enough}
use Rattle.sb_rawlog.proofs.Orders.{older, entries_older, in_order, chain_behind, length-entries}
use Rattle.sb_rawlog.specs.declared.key.Key.{Key}
use Rattle.sb_rawlog.specs.declared.key.Key.TheVariants.{Op as OpKey, Tuple as TupleKey, Session as SessionKey}
use Rattle.sb_rawlog.specs.declared.spot.Spot.{Spot}
use Rattle.sb_rawlog.specs.Buckets.{group, mixed, kind_number, session_number, bucket, key_bucket, list_of, by_which}
use Rattle.sb_rawlog.specs.Changes.{author, is_by, same_kind, is_op, is_tuple}
use Rattle.sb_rawlog.specs.Keys.{fits}
use Rattle.sb_rawlog.specs.KeySteps.{KeySpot, KeyFirst, KeyNext}
use Rattle.sb_rawlog.specs.Places.{HoldsLog}
use Rattle.sb_rawlog.specs.Raw.{Raw, Stands}
use Rattle.sb_rawlog.specs.Records.{Record, Rising, walk, before, change_at}
use Rattle.sb_rawlog.specs.Search.{selects, spot_for, Hit}
use Rattle.sb_rawlog.specs.Steps.{Newest}
use Rattle.sb_rawlog.proofs.Seen.{get-shown, shown_node, falls-rise, rising-before, change_there, first_found, none_found, before-places, before-before, first_older, length-seen}
use Rattle.sb_rawlog.proofs.Sessions.{author_is}
use Rattle.sb_rawlog.proofs.KeySteps.{of_op, of_tuple}

-- ---- keys

-- what fits a key lies in the key's bucket
pub fits_bucket : (n m : ℕ) (k : Key) (c : Change) → fits k c ≡ true → bucket n m (list_of k) c ≡ key_bucket n m k
fits_bucket n m (OpKey who table kind) c e =
    let of = of_op who table kind c e in
    λ j. mixed (group (of.0 j).tenant (of.0 j).session (of.1.0 j)) (kind_number (of.1.1 j)) % n
fits_bucket n m (TupleKey who table tuple) c e =
    let of = of_tuple who table tuple c e in
    λ j. mixed (group (of.0 j).tenant (of.0 j).session (of.1.0 j)) (of.1.1 j) % m
fits_bucket n m (SessionKey who) c e = let by : author c ≡ who = author_is who c e in λ j. session_number (by j).tenant (by j).session

is_by-author : (who : Who) (c : Change) → who ≡ author c → is_by who c ≡ true
is_by-author who c e = ap (λ b. b && (c.session == who.session)) (eq-eqb c.tenant who.tenant (ap (λ (w : Who). w.tenant) (sym e))) ∙ eq-eqb c.session who.session (ap (λ (w : Who). w.session) (sym e))

same_kind-refl : (a : ChangeKind) → same_kind a a ≡ true
same_kind-refl Inserted = refl
same_kind-refl Deleted = refl
same_kind-refl Updated = refl

-- a spot's own record fits the spot's keys
pub op_fits : (s : Spot) (c : Change) → s.who ≡ author c → s.table ≡ c.table → s.kind ≡ c.kind → is_op s.who s.table s.kind c ≡ true
op_fits s c who table kind =
    ap (λ b. b && ((c.table == s.table) && same_kind c.kind s.kind)) (is_by-author s.who c who) ∙ ap (λ b. b && same_kind c.kind s.kind) (eq-eqb c.table s.table (sym table)) ∙ ap (same_kind c.kind) kind ∙ same_kind-refl c.kind

pub tuple_fits : (s : Spot) (c : Change) → s.who ≡ author c → s.table ≡ c.table → s.tuple ≡ c.tuple → is_tuple s.who s.table s.tuple c ≡ true
tuple_fits s c who table tuple =
    ap (λ b. b && ((c.table == s.table) && (c.tuple == s.tuple))) (is_by-author s.who c who) ∙ ap (λ b. b && (c.tuple == s.tuple)) (eq-eqb c.table s.table (sym table)) ∙ eq-eqb c.tuple s.tuple (sym tuple)

module _ (cs : List (Option (Node Change))) (ops tuples sessions : List (Option ℕ)) (order : List ℕ) (clock room : ℕ) (holds : HoldsLog cs ops tuples sessions order clock) where
  abbrev pub value : Raw
  value = record { places = shown cs; clock = clock; room = room }

  abbrev rs : List Record
  rs = contents clock (shown cs)

  pub seen_is : rs ≡ reverse (entries cs order)
  seen_is = in_order cs clock order holds.log.falls (λ q is lt. holds.log.all q is)

  pub seen_rises : Rising 0 rs clock
  seen_rises = subst (λ (l : List Record). Rising 0 l clock) (sym seen_is) (falls-rise cs clock order holds.log.falls)

  pub seen_long : length rs ≡ length order
  seen_long = length-seen (entries cs order) rs seen_is ∙ length-entries cs clock order holds.log.falls

  -- the change of a place's time is the place's
  pub place_change : (p : ℕ) (n : Node Change) → get_or cs p None ≡ Some n → change_at n.time rs ≡ Some n.item
  place_change p n e = change_there cs p clock order n rs seen_is holds.log.falls (holds.log.all p (n, e)) e

  pub stands_at : (p since : ℕ) (n : Node Change) → get_or cs p None ≡ Some n → Stands value (spot_for p since n)
  stands_at p since n e = record { change = n.item; here = get-shown cs p ∙ ap entry_in e; who = refl; table = refl; kind = refl; tuple = refl }

  -- the place that a spot stands at
  pub standing : (s : Spot) (st : Stands value s) → (n : Node Change) × ((get_or cs s.place None ≡ Some n) × ((n.time ≡ s.time) × (n.item ≡ st.change)))
  standing s st =
      let n = shown_node (get_or cs s.place None) (s.time, st.change) (sym (get-shown cs s.place) ∙ st.here) in
      (n.0, (n.1, (ap (λ (r : Record). r.0) n.2, ap (λ (r : Record). r.1) n.2)))

  module _ (k : Key) (since : ℕ) where
    abbrev p : Change → Bool
    p = fits k

    abbrev w : Which
    w = list_of k

    abbrev b : ℕ
    b = key_bucket (length ops) (length tuples) k

    abbrev in_list : Which → Change → ℕ
    in_list = bucket (length ops) (length tuples)

    -- the bucket's chain has all that is selected
    enough : (ps : List ℕ) → filter (selects p since) (entries cs (in_bucket in_list w b cs ps)) ≡ filter (selects p since) (entries cs ps)
    enough ps = bucket_enough in_list w b cs (selects p since) (λ r e. fits_bucket (length ops) (length tuples) k r.1 (and_parts (nat_le since r.0) (p r.1) e).1) ps

    pub first_chain : (head : Option ℕ) → head ≡ get_or (by_which ops tuples sessions w) b None → IsChain w cs clock head (in_bucket in_list w b cs order)
    first_chain head e = subst (λ h. IsChain w cs clock h (in_bucket in_list w b cs order)) (sym e) (holds.log.chains w b)

    abbrev pub first_places : List ℕ
    first_places = in_bucket in_list w b cs order

    pub first_walk : (s : Spot) → (hit : Hit p since cs first_places s) → walk p since rs ≡ (hit.node.time, hit.node.item) ∷ walk p since (before hit.node.time rs)
    first_walk s hit = first_found p since (entries cs order) rs clock (hit.node.time, hit.node.item) hit.rest seen_is seen_rises (sym (enough order) ∙ hit.first)

    pub no_first : filter (selects p since) (entries cs first_places) ≡ [] → walk p since rs ≡ []
    no_first e = none_found p since (entries cs order) rs seen_is (sym (enough order) ∙ e)

    -- behind a place
    module _ (at : ℕ) (n : Node Change) (here : get_or cs at None ≡ Some n) (good : p n.item ≡ true) (t : ℕ) (when : n.time ≡ t) where
      abbrev pub next_places : List ℕ
      next_places = in_bucket in_list w b cs (older cs t order)

      time_is : time_at cs at ≡ t
      time_is = ap time_in here ∙ when

      pub next_chain : (behind : Option ℕ) → behind ≡ link w cs at → IsChain w cs t behind next_places
      next_chain behind e =
          let mine : bucket_in in_list w (item_at cs at) ≡ b = ap (λ c. bucket_in in_list w (item_in c)) here ∙ fits_bucket (length ops) (length tuples) k n.item good in
          let chain = chain_behind in_list w cs at clock order clock (get_or (by_which ops tuples sessions w) (bucket_in in_list w (item_at cs at)) None) holds.log.falls (holds.log.all at (n, here)) (holds.log.chains w (bucket_in in_list w (item_at cs at))) in
          subst (λ (z : ℕ × (Option ℕ × ℕ)). IsChain w cs z.0 z.1.0 (in_bucket in_list w z.1.1 cs (older cs z.0 order))) (λ j. (time_is j, (sym e j, mine j))) chain

      rest_is : before t rs ≡ reverse (entries cs (older cs t order))
      rest_is = before-places cs t order rs seen_is

      pub next_walk : (s : Spot) → (hit : Hit p since cs next_places s) → walk p since (before t rs) ≡ (hit.node.time, hit.node.item) ∷ walk p since (before hit.node.time rs)
      next_walk s hit =
          let first = sym (enough (older cs t order)) ∙ hit.first in
          let lt = first_older (selects p since) t (entries cs order) (hit.node.time, hit.node.item) hit.rest (ap (filter (selects p since)) (sym (entries_older cs t order)) ∙ first) in
          first_found p since (entries cs (older cs t order)) (before t rs) clock (hit.node.time, hit.node.item) hit.rest rest_is (rising-before t rs clock seen_rises) first
          ∙ ap (λ l. (hit.node.time, hit.node.item) ∷ walk p since l) (before-before hit.node.time t rs (omega arith))

      pub no_next : filter (selects p since) (entries cs next_places) ≡ [] → walk p since (before t rs) ≡ []
      no_next e = none_found p since (entries cs (older cs t order)) (before t rs) rest_is (sym (enough (older cs t order)) ∙ e)

  -- ---- the spots of a walk for a key

  key_spot : (k : Key) (since : ℕ) (ps : List ℕ) (todo : List Record) (s : Spot) → (hit : Hit (fits k) since cs ps s) → todo ≡ (hit.node.time, hit.node.item) ∷ walk (fits k) since (before hit.node.time rs)
      → KeySpot (Stands value) rs k since todo s
  key_spot k since ps todo s hit first =
      record {
        found = (hit.node.time, hit.node.item);
        is = hit.is;
        stands = subst (Stands value) (sym hit.is) (stands_at s.place since hit.node hit.here);
        here = place_change s.place hit.node hit.here;
        good = hit.fits;
        first = first;
      }

  pub key_first_is : (k : Key) (since : ℕ) (o : Option Spot) → let ps = first_places k since in
      MatchOption o (filter (selects (fits k) since) (entries cs ps) ≡ []) (Hit (fits k) since cs ps) → KeyFirst (Stands value) rs k since o
  key_first_is k since None h = no_first k since h
  key_first_is k since (Some s) h = key_spot k since (first_places k since) _ s h (first_walk k since s h)

  pub key_next_is : (k : Key) (at : Spot) (n : Node Change) (here : get_or cs at.place None ≡ Some n) (good : fits k n.item ≡ true) (when : n.time ≡ at.time) (o : Option Spot)
      → let ps = next_places k at.since at.place n here good at.time when in
      MatchOption o (filter (selects (fits k) at.since) (entries cs ps) ≡ []) (Hit (fits k) at.since cs ps) → KeyNext (Stands value) rs k at o
  key_next_is k at n here good when None h = no_next k at.since at.place n here good at.time when h
  key_next_is k at n here good when (Some s) h = key_spot k at.since (next_places k at.since at.place n here good at.time when) _ s h (next_walk k at.since at.place n here good at.time when s h)

  abbrev pub newest_is : (who : Who) (s : Spot) → (hit : Hit (is_by who) 0 cs (first_places (SessionKey who) 0) s) → Newest who rs hit.node.item
  newest_is who s hit = record { time = hit.node.time; here = place_change s.place hit.node hit.here; first = first_walk (SessionKey who) 0 s hit }
