-- A change leaves its place and the three lists, one list after another.
use Rattle.std.proofs.Common.{◌≡◌, ◌≢◌, ℕ, ◌<◌, Bool, true, false, not, ◌==◌, cond, inl, inr, List, [], ◌∷◌, length, get_or, set, Option, Some, None, refl, sym, ap, ◌∙◌, subst, arith, length-set, get_or-set_same, get_or-set_other, eq-eqb}
use Rattle.std.specs.List.{filter}
use Rattle.sb_value.specs.declared.change.Change.{Change}
use Rattle.sb_rawlog.specs.declared.node.Which.{Which}
use Rattle.sb_rawlog.specs.declared.node.Which.TheVariants.{Op, Tuple, Session}
use Rattle.sb_rawlog.specs.declared.node.Node.{Node}
use Rattle.sb_rawlog.specs.Links.{time_in, item_in, item_at, IsNode, IsChain, Member, taken_out, Leaves, IsInList, LeavesList}
use Rattle.sb_rawlog.specs.Logs.{entry_in, entries, bucket_in, in_bucket, IsLog}
use Rattle.sb_rawlog.proofs.Chains.{node_within, node_by_item}
use Rattle.sb_rawlog.proofs.Logs.{Partly, one_less, removed}
use Rattle.sb_rawlog.proofs.Orders.{entries_taken}
use Rattle.sb_rawlog.specs.Buckets.{bucket, by_which}
use Rattle.sb_rawlog.specs.Places.{HoldsLog, TakesOut}
use Rattle.sb_rawlog.proofs.Rises.{read}
use Rattle.std.specs.Prelude.{slice_get}
use Rattle.std.proofs.lemmas.Option.{slice_get-get_or}

member_chosen : (f : ℕ → Bool) (p : ℕ) (ps : List ℕ) → f p ≡ true → Member p ps → Member p (filter f ps)
member_chosen f p [] good m = m
member_chosen f p (q ∷ qs) good m = elim m [
  | inl e ↦ subst (λ b. Member p (cond b (q ∷ filter f qs) (filter f qs))) (sym (ap f (sym e) ∙ good)) (inl e)
  | inr r ↦ elim (f q) as (λ b. Member p (cond b (q ∷ filter f qs) (filter f qs))) [ true ↦ inr (member_chosen f p qs good r) | false ↦ member_chosen f p qs good r ]
]

abbrev each : List ℕ → List ℕ → List ℕ → Which → List ℕ
each a b c Op = a
each a b c Tuple = b
each a b c Session = c

entry_same : {X : Type 0} (c d : Option (Node X)) → item_in c ≡ item_in d → time_in c ≡ time_in d → entry_in c ≡ entry_in d
entry_same None None i t = refl
entry_same None (Some n) i t = absurd (cc)
entry_same (Some m) None i t = absurd (cc)
entry_same (Some m) (Some n) i t = let same : m.item ≡ n.item = cc in λ j. Some (t j, same j)

-- a head that was read
pub read_head : (xs : List (Option ℕ)) (i j : ℕ) (x : Option ℕ) → x ≡ get_or xs i x → i ≡ j → j < length xs → x ≡ get_or xs j None
read_head xs i j x e same lt =
    let a : slice_get xs j ≡ Some x = read xs j x (e ∙ ap (λ k. get_or xs k x) same) lt in
    let b = slice_get-get_or xs j None lt in cc

module _ (was : List (Option (Node Change))) (ops tuples sessions : List (Option ℕ)) (order : List ℕ) (clock p : ℕ) (holds : HoldsLog was ops tuples sessions order clock) (there : Member p order)
    (n : Node Change) (at : get_or was p None ≡ Some n) where
  abbrev in_list : Which → Change → ℕ
  in_list = bucket (length ops) (length tuples)

  abbrev mine : Which → ℕ
  mine w = bucket_in in_list w (item_at was p)

  abbrev out : List ℕ
  out = taken_out p order

  mine_is : (w : Which) → mine w ≡ in_list w n.item
  mine_is w = ap (λ c. bucket_in in_list w (item_in c)) at

  in_chain : (w : Which) → Member p (in_bucket in_list w (mine w) was order)
  in_chain w = member_chosen (λ q. bucket_in in_list w (item_at was q) == mine w) p order (eq-eqb (mine w) (mine w) refl) there

  within : (w : Which) → mine w < length (by_which ops tuples sessions w)
  within w = subst (λ k. k < length (by_which ops tuples sessions w)) (sym (mine_is w)) (holds.log.buckets w n.item)

  abbrev Part : List (Option (Node Change)) → (Which → List (Option ℕ)) → (Which → List ℕ) → Type 0
  Part cs heads orders = Partly in_list was cs heads orders clock

  start : Part was (by_which ops tuples sessions) (λ _. order)
  start = record { items = λ q. refl; times = λ q. refl; chains = holds.log.chains }

  -- the chain that the place is in, of a list that still has it
  abbrev asks : (w : Which) (cs : List (Option (Node Change))) (heads : Which → List (Option ℕ)) (orders : Which → List ℕ) → Part cs heads orders → orders w ≡ order → (head : Option ℕ) → head ≡ get_or (heads w) (in_list w n.item) None → IsInList w cs head p
  asks w cs heads orders part full head e = (
    clock,
    (
      in_bucket in_list w (mine w) was order,
      (subst (λ (k : Option ℕ × List ℕ). IsChain w cs clock k.0 (in_bucket in_list w (mine w) was k.1)) (λ j. ((ap (λ b. get_or (heads w) b None) (mine_is w) ∙ sym e) j, full j)) (part.chains w (mine w)), in_chain w),
    ),
  )

  leaves : (w : Which) (cs ds : List (Option (Node Change))) (heads : Which → List (Option ℕ)) (orders : Which → List ℕ) → (part : Part cs heads orders) → (full : orders w ≡ order) → (head next : Option ℕ)
      → (e : head ≡ get_or (heads w) (in_list w n.item) None) → LeavesList w cs ds head next p → Leaves w p clock (in_bucket in_list w (mine w) was order) cs ds next
  leaves w cs ds heads orders part full head next e told = let a = asks w cs heads orders part full head e in told clock (in_bucket in_list w (mine w) was order) a.1.1.0 a.1.1.1

  module _ (head1 : Option ℕ) (e1 : head1 ≡ get_or ops (in_list Op n.item) None) where
    pub asks1 : IsInList Op was head1 p
    asks1 = asks Op was (by_which ops tuples sessions) (λ _. order) start refl head1 e1

    module _ (cs1 : List (Option (Node Change))) (next1 : Option ℕ) (told1 : LeavesList Op was cs1 head1 next1 p) (ops1 : List (Option ℕ)) (put1 : ops1 ≡ set ops (in_list Op n.item) next1) where
      part1 : Part cs1 (by_which ops1 tuples sessions) (each out order order)
      part1 = one_less in_list was order clock was cs1 (by_which ops tuples sessions) (by_which ops1 tuples sessions) (λ _. order) (each out order order) Op p start refl refl
          (elim [ Op ↦ λ ne. absurd (ne refl) | Tuple ↦ λ ne. (refl, refl) | Session ↦ λ ne. (refl, refl) ])
          next1 (leaves Op was cs1 (by_which ops tuples sessions) (λ _. order) start refl head1 next1 e1 told1) (within Op) (put1 ∙ ap (λ b. set ops b next1) (sym (mine_is Op)))

      module _ (head2 : Option ℕ) (e2 : head2 ≡ get_or tuples (in_list Tuple n.item) None) where
        pub asks2 : IsInList Tuple cs1 head2 p
        asks2 = asks Tuple cs1 (by_which ops1 tuples sessions) (each out order order) part1 refl head2 e2

        module _ (cs2 : List (Option (Node Change))) (next2 : Option ℕ) (told2 : LeavesList Tuple cs1 cs2 head2 next2 p) (tuples1 : List (Option ℕ)) (put2 : tuples1 ≡ set tuples (in_list Tuple n.item) next2) where
          part2 : Part cs2 (by_which ops1 tuples1 sessions) (each out out order)
          part2 = one_less in_list was order clock cs1 cs2 (by_which ops1 tuples sessions) (by_which ops1 tuples1 sessions) (each out order order) (each out out order) Tuple p part1 refl refl
              (elim [ Op ↦ λ ne. (refl, refl) | Tuple ↦ λ ne. absurd (ne refl) | Session ↦ λ ne. (refl, refl) ])
              next2 (leaves Tuple cs1 cs2 (by_which ops1 tuples sessions) (each out order order) part1 refl head2 next2 e2 told2) (within Tuple) (put2 ∙ ap (λ b. set tuples b next2) (sym (mine_is Tuple)))

          module _ (head3 : Option ℕ) (e3 : head3 ≡ get_or sessions (in_list Session n.item) None) where
            pub asks3 : IsInList Session cs2 head3 p
            asks3 = asks Session cs2 (by_which ops1 tuples1 sessions) (each out out order) part2 refl head3 e3

            module _ (cs3 : List (Option (Node Change))) (next3 : Option ℕ) (told3 : LeavesList Session cs2 cs3 head3 next3 p) (sessions1 : List (Option ℕ)) (put3 : sessions1 ≡ set sessions (in_list Session n.item) next3) where
              part3 : Part cs3 (by_which ops1 tuples1 sessions1) (each out out out)
              part3 = one_less in_list was order clock cs2 cs3 (by_which ops1 tuples1 sessions) (by_which ops1 tuples1 sessions1) (each out out order) (each out out out) Session p part2 refl refl
                  (elim [ Op ↦ λ ne. (refl, refl) | Tuple ↦ λ ne. (refl, refl) | Session ↦ λ ne. absurd (ne refl) ])
                  next3 (leaves Session cs2 cs3 (by_which ops1 tuples1 sessions) (each out out order) part2 refl head3 next3 e3 told3) (within Session) (put3 ∙ ap (λ b. set sessions b next3) (sym (mine_is Session)))

              part : Part cs3 (by_which ops1 tuples1 sessions1) (λ _. out)
              part = record { items = part3.items; times = part3.times; chains = elim [ Op ↦ part3.chains Op | Tuple ↦ part3.chains Tuple | Session ↦ part3.chains Session ] }

              pub still : IsNode cs3 p
              still = node_by_item Op was cs3 p (part3.items p) (n, at)

              long3 : length cs3 ≡ length was
              long3 = (leaves Session cs2 cs3 (by_which ops1 tuples1 sessions) (each out out order) part2 refl head3 next3 e3 told3).same.long
                  ∙ (leaves Tuple cs1 cs2 (by_which ops1 tuples sessions) (each out order order) part1 refl head2 next2 e2 told2).same.long
                  ∙ (leaves Op was cs1 (by_which ops tuples sessions) (λ _. order) start refl head1 next1 e1 told1).same.long

              long_ops : length ops1 ≡ length ops
              long_ops = ap length put1 ∙ length-set ops (in_list Op n.item) next1

              long_tuples : length tuples1 ≡ length tuples
              long_tuples = ap length put2 ∙ length-set tuples (in_list Tuple n.item) next2

              long_sessions : length sessions1 ≡ length sessions
              long_sessions = ap length put3 ∙ length-set sessions (in_list Session n.item) next3

              pub takes_out : (es : List (Option (Node Change))) (last : Node Change) → get_or cs3 p None ≡ Some last → es ≡ set cs3 p None → TakesOut was es ops1 tuples1 sessions1 order clock p last.item
              takes_out es last last_is gone =
                  let lt = node_within cs3 p still in
                  let kept : (q : ℕ) → q ≢ p → get_or es q None ≡ get_or cs3 q None = λ q ne. ap (λ l. get_or l q None) gone ∙ get_or-set_other cs3 p q None None ne in
                  let same_item : Some last.item ≡ Some n.item = ap item_in (sym last_is) ∙ part3.items p ∙ ap item_in at in
                  let log : IsLog in_list es (by_which ops1 tuples1 sessions1) out clock = removed in_list was cs3 es (by_which ops tuples sessions) (by_which ops1 tuples1 sessions1) order clock p holds.log part lt gone
                  (elim [ Op ↦ long_ops | Tuple ↦ long_tuples | Session ↦ long_sessions ]) in
                  record {
                    node = n;
                    here = at;
                    result_is = cc;
                    holds = record {
                      buckets = (let b = holds.buckets in omega (arith, long_ops));
                      of_tuples = (let b = holds.of_tuples in omega (arith, long_tuples));
                      of_sessions = long_sessions ∙ holds.of_sessions;
                      log = subst (λ (k : ℕ × ℕ). IsLog (bucket k.0 k.1) es (by_which ops1 tuples1 sessions1) out clock) (λ j. (sym long_ops j, sym long_tuples j)) log;
                    };
                    left = entries_taken was es p clock order order clock holds.log.falls there (λ q m. m) (λ q ne. (ap item_in (kept q ne) ∙ part3.items q, ap time_in (kept q ne) ∙ part3.times q)) holds.log.falls
                        ∙ ap (λ t. filter (λ e. not (e.0 == t)) (entries was order)) (ap time_in at);
                    others = λ q ne. ap entry_in (kept q ne) ∙ entry_same (get_or cs3 q None) (get_or was q None) (part3.items q) (part3.times q);
                    gone = ap (λ l. get_or l p None) gone ∙ get_or-set_same cs3 p None None lt;
                    long = ap length gone ∙ length-set cs3 p None ∙ long3;
                  }
