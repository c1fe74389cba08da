-- A change that is added or taken out leaves a log.
use Rattle.std.proofs.lemmas.Bool.{not-true}
use Rattle.std.proofs.Common.{◌≡◌, ◌≢◌, ℕ, ◌+◌, ◌<◌, ◌≤◌, Bool, true, false, not, ◌==◌, cond, ◌⊎◌, inl, inr, List, [], ◌∷◌, length, get_or, set, Option, Some, None, refl, sym, ap, ◌∙◌, subst, arith, length-set, get_or-set_same, get_or-set_other, eq-eqb, ne_eqb, eqb-true}
use Rattle.std.specs.List.{filter}
use Rattle.sb_rawlog.specs.declared.node.Which.{Which}
use Rattle.sb_rawlog.specs.declared.node.Which.TheVariants.{Op, Tuple, Session}
use Rattle.sb_rawlog.specs.declared.node.Node.{Node}
use Rattle.sb_rawlog.specs.Links.{link_of, link_in, link, time_in, time_at, item_in, item_at, IsNode, IsChain, Member, taken_out, Leaves}
use Rattle.sb_rawlog.specs.Logs.{with_entry, entries, Falls, bucket_in, in_bucket, IsLog}
use Rattle.sb_rawlog.proofs.Chains.{same_or_not, framed, framed_by, raised, node_by_item}

pub member_filter : (f : ℕ → Bool) (p : ℕ) (ps : List ℕ) → Member p (filter f ps) → Member p ps × (f p ≡ true)
member_filter f p [] m = absurd m
member_filter f p (q ∷ qs) m = elim (f q) as (λ b. (f q ≡ b) → Member p (cond b (q ∷ filter f qs) (filter f qs)) → Member p (q ∷ qs) × (f p ≡ true)) [
  | true ↦ (λ e n. elim n [ inl is ↦ (inl is, ap f is ∙ e) | inr r ↦ let d = member_filter f p qs r in (inr d.0, d.1) ])
  | false ↦ (λ e n. let d = member_filter f p qs n in (inr d.0, d.1))
] refl m

filter_alike : (f g : ℕ → Bool) (ps : List ℕ) → ((p : ℕ) → Member p ps → f p ≡ g p) → filter f ps ≡ filter g ps
filter_alike f g [] h = refl
filter_alike f g (p ∷ ps) h = (λ j. cond (h p (inl refl) j) (p ∷ filter_alike f g ps (λ q m. h q (inr m)) j) (filter_alike f g ps (λ q m. h q (inr m)) j))

module _ {X : Type 0} where
  falls_node : (cs : List (Option (Node X))) (top : ℕ) (ps : List ℕ) (q : ℕ) → Falls cs top ps → Member q ps → IsNode cs q
  falls_node cs top [] q h m = absurd m
  falls_node cs top (p ∷ ps) q h m = elim m [ inl e ↦ subst (IsNode cs) (sym e) h.0 | inr r ↦ falls_node cs (time_at cs p) ps q h.2 r ]

  falls_framed : (cs ds : List (Option (Node X))) (top : ℕ) (ps : List ℕ) → ((q : ℕ) → Member q ps → get_or ds q None ≡ get_or cs q None) → Falls cs top ps → Falls ds top ps
  falls_framed cs ds top [] same h = h
  falls_framed cs ds top (p ∷ ps) same h =
      let e = same p (inl refl) in
      ((h.0.0, e ∙ h.0.1), subst (λ (c : Option (Node X)). time_in c < top) (sym e) h.1, subst (λ (c : Option (Node X)). Falls ds (time_in c) ps) (sym e) (falls_framed cs ds (time_at cs p) ps (λ q m. same q (inr m)) h.2))

  entries_framed : (cs ds : List (Option (Node X))) (ps : List ℕ) → ((q : ℕ) → Member q ps → get_or ds q None ≡ get_or cs q None) → entries ds ps ≡ entries cs ps
  entries_framed cs ds [] same = refl
  entries_framed cs ds (p ∷ ps) same = (λ j. with_entry (same p (inl refl) j) (entries_framed cs ds ps (λ q m. same q (inr m)) j))

  module _ (bucket : Which → X → ℕ) (cs : List (Option (Node X))) (heads : Which → List (Option ℕ)) (order : List ℕ) (clock : ℕ) (log : IsLog bucket cs heads order clock)
      (p : ℕ) (free : get_or cs p None ≡ None) (within : p < length cs) (n : Node X) (when : n.time ≡ clock)
      (linked : (w : Which) → link_of w n.links ≡ get_or (heads w) (bucket w n.item) None) where
    abbrev ds : List (Option (Node X))
    ds = set cs p (Some n)

    abbrev pub heads_after : Which → List (Option ℕ)
    heads_after w = set (heads w) (bucket w n.item) (Some p)

    here : get_or ds p None ≡ Some n
    here = get_or-set_same cs p (Some n) None within

    apart : (q : ℕ) → Member q order → q ≢ p
    apart q m e = let is = falls_node cs clock order q log.falls m in let none : get_or cs q None ≡ None = ap (λ k. get_or cs k None) e ∙ free in let some = is.1 in cc

    kept : (q : ℕ) → Member q order → get_or ds q None ≡ get_or cs q None
    kept q m = get_or-set_other cs p q (Some n) None (apart q m)

    bucket_here : (w : Which) → bucket_in bucket w (item_at ds p) ≡ bucket w n.item
    bucket_here w = ap (λ c. bucket_in bucket w (item_in c)) here

    old_places : (w : Which) (b : ℕ) → in_bucket bucket w b ds order ≡ in_bucket bucket w b cs order
    old_places w b = filter_alike (λ q. bucket_in bucket w (item_at ds q) == b) (λ q. bucket_in bucket w (item_at cs q) == b) order (λ q m. ap (λ c. bucket_in bucket w (item_in c) == b) (kept q m))

    old_chain : (w : Which) (b top : ℕ) → clock ≤ top → IsChain w ds top (get_or (heads w) b None) (in_bucket bucket w b cs order)
    old_chain w b top le =
        framed w cs ds top (get_or (heads w) b None) (in_bucket bucket w b cs order) (λ q m. kept q (member_filter (λ r. bucket_in bucket w (item_at cs r) == b) q order m).0)
        (raised w cs clock top (get_or (heads w) b None) (in_bucket bucket w b cs order) le (log.chains w b))

    new_chain : (w : Which) (b : ℕ) → IsChain w ds (clock + 1) (get_or (heads_after w) b None) (in_bucket bucket w b ds (p ∷ order))
    new_chain w b = elim (same_or_not b (bucket w n.item)) [
      | inl is ↦
          let t : (bucket_in bucket w (item_at ds p) == b) ≡ true = eq-eqb (bucket_in bucket w (item_at ds p)) b (bucket_here w ∙ sym is) in
          let list : in_bucket bucket w b ds (p ∷ order) ≡ p ∷ in_bucket bucket w b cs order = ap (λ v. cond v (p ∷ in_bucket bucket w b ds order) (in_bucket bucket w b ds order)) t ∙ ap (λ l. p ∷ l) (old_places w b) in
          let head : get_or (heads_after w) b None ≡ Some p = ap (λ k. get_or (heads_after w) k None) is ∙ get_or-set_same (heads w) (bucket w n.item) (Some p) None (log.buckets w n.item) in
          let time : time_at ds p ≡ clock = ap time_in here ∙ when in
          let next : link w ds p ≡ get_or (heads w) b None = ap (link_in w) here ∙ linked w ∙ ap (λ k. get_or (heads w) k None) (sym is) in
          let rest : IsChain w ds (time_at ds p) (link w ds p) (in_bucket bucket w b cs order) =
          subst (λ (k : ℕ × Option ℕ). IsChain w ds k.0 k.1 (in_bucket bucket w b cs order)) (λ j. (sym time j, sym next j)) (old_chain w b clock (omega arith)) in
          subst (IsChain w ds (clock + 1) (get_or (heads_after w) b None)) (sym list) (head, (n, here), omega (arith, time), rest)
      | inr ne ↦
          let t : (bucket_in bucket w (item_at ds p) == b) ≡ false = ne_eqb (bucket_in bucket w (item_at ds p)) b (λ s. ne (sym s ∙ bucket_here w)) in
          let list : in_bucket bucket w b ds (p ∷ order) ≡ in_bucket bucket w b cs order = ap (λ v. cond v (p ∷ in_bucket bucket w b ds order) (in_bucket bucket w b ds order)) t ∙ old_places w b in
          let head : get_or (heads_after w) b None ≡ get_or (heads w) b None = get_or-set_other (heads w) (bucket w n.item) b (Some p) None ne in
          subst (λ (k : Option ℕ × List ℕ). IsChain w ds (clock + 1) k.0 k.1) (λ j. (sym head j, sym list j)) (old_chain w b (clock + 1) (omega arith))
    ]

    -- a node in a free place, with the clock's time and the heads as its links, is added to the log
    pub added : IsLog bucket ds heads_after (p ∷ order) (clock + 1) × (entries ds (p ∷ order) ≡ (clock, n.item) ∷ entries cs order)
    added =
        let time : time_at ds p ≡ clock = ap time_in here ∙ when in (
          record {
            falls = ((n, here), omega (arith, time), subst (λ k. Falls ds k order) (sym time) (falls_framed cs ds clock order kept log.falls));
            all = λ q is. elim (same_or_not q p) [ inl e ↦ inl e | inr ne ↦ inr (log.all q (is.0, sym (get_or-set_other cs p q (Some n) None ne) ∙ is.1)) ];
            buckets = λ w x. let long = length-set (heads w) (bucket w n.item) (Some p) in let lt = log.buckets w x in omega arith;
            chains = new_chain;
          },
          (λ j. with_entry (here j) (entries_framed cs ds order kept j)) ∙ ap (λ t. (t, n.item) ∷ entries cs order) when,
        )

filter_swap : (f : ℕ → Bool) (p : ℕ) (ps : List ℕ) → taken_out p (filter f ps) ≡ filter f (taken_out p ps)
filter_swap f p [] = refl
filter_swap f p (q ∷ qs) =
    elim (f q) as (λ b. (f q ≡ b) → taken_out p (cond b (q ∷ filter f qs) (filter f qs)) ≡ filter f (taken_out p (q ∷ qs))) [
      | true ↦ (λ e. elim (q == p) as (λ b. cond (not b) (q ∷ taken_out p (filter f qs)) (taken_out p (filter f qs)) ≡ filter f (cond (not b) (q ∷ taken_out p qs) (taken_out p qs))) [
        | true ↦ filter_swap f p qs
        | false ↦ ap (λ l. q ∷ l) (filter_swap f p qs) ∙ ap (λ b. cond b (q ∷ filter f (taken_out p qs)) (filter f (taken_out p qs))) (sym e)
      ])
      | false ↦ (λ e. elim (q == p) as (λ b. taken_out p (filter f qs) ≡ filter f (cond (not b) (q ∷ taken_out p qs) (taken_out p qs))) [
        | true ↦ filter_swap f p qs
        | false ↦ filter_swap f p qs ∙ ap (λ b. cond b (q ∷ filter f (taken_out p qs)) (filter f (taken_out p qs))) (sym e)
      ])
    ] refl

-- a place that the test refuses is no loss
filter_without : (f : ℕ → Bool) (p : ℕ) (ps : List ℕ) → f p ≡ false → filter f (taken_out p ps) ≡ filter f ps
filter_without f p [] e = refl
filter_without f p (q ∷ qs) e = elim (same_or_not q p) [
  | inl is ↦
      let t = eq-eqb q p is in let u : f q ≡ false = ap f is ∙ e in
      ap (λ b. filter f (cond (not b) (q ∷ taken_out p qs) (taken_out p qs))) t ∙ filter_without f p qs e ∙ ap (λ b. cond b (q ∷ filter f qs) (filter f qs)) (sym u)
  | inr ne ↦
      let t = ne_eqb q p ne in
      ap (λ b. filter f (cond (not b) (q ∷ taken_out p qs) (taken_out p qs))) t ∙ ap (λ l. cond (f q) (q ∷ l) l) (filter_without f p qs e)
]

pub same_which : (a b : Which) → (a ≡ b) ⊎ (a ≢ b)
same_which Op Op = inl refl
same_which Op Tuple = inr (λ e. cc)
same_which Op Session = inr (λ e. cc)
same_which Tuple Op = inr (λ e. cc)
same_which Tuple Tuple = inl refl
same_which Tuple Session = inr (λ e. cc)
same_which Session Op = inr (λ e. cc)
same_which Session Tuple = inr (λ e. cc)
same_which Session Session = inl refl

-- between two unlinks: the items and times are those of the log, and each list has the order that it has reached
pub record Partly {X : Type 0} (bucket : Which → X → ℕ) (was cs : List (Option (Node X))) (heads : Which → List (Option ℕ)) (orders : Which → List ℕ) (clock : ℕ) : Type 0 where
  pub items : (q : ℕ) → item_at cs q ≡ item_at was q
  pub times : (q : ℕ) → time_at cs q ≡ time_at was q
  pub chains : (w : Which) (b : ℕ) → IsChain w cs clock (get_or (heads w) b None) (in_bucket bucket w b was (orders w))

module _ {X : Type 0} (bucket : Which → X → ℕ) (was : List (Option (Node X))) (order : List ℕ) (clock : ℕ) where
  -- one list less has the place
  pub one_less : (cs ds : List (Option (Node X))) (heads after : Which → List (Option ℕ)) (orders less : Which → List ℕ) (v : Which) (p : ℕ) → Partly bucket was cs heads orders clock
      → orders v ≡ order → less v ≡ taken_out p order → ((w : Which) → w ≢ v → (less w ≡ orders w) × (after w ≡ heads w))
      → (head : Option ℕ) → Leaves v p clock (in_bucket bucket v (bucket_in bucket v (item_at was p)) was order) cs ds head
      → bucket_in bucket v (item_at was p) < length (heads v) → after v ≡ set (heads v) (bucket_in bucket v (item_at was p)) head → Partly bucket was ds after less clock
  one_less cs ds heads after orders less v p part full fewer others head gone within put =
      let mine : ℕ = bucket_in bucket v (item_at was p) in
      let test : Which → ℕ → ℕ → Bool = λ w b q. bucket_in bucket w (item_at was q) == b in
      let nodes : (q : ℕ) → IsNode cs q → IsNode ds q = λ q. node_by_item v cs ds q (gone.same.items q) in
      let here : get_or (after v) mine None ≡ head = ap (λ l. get_or l mine None) put ∙ get_or-set_same (heads v) mine head None within in
      let elsewhere : (b : ℕ) → b ≢ mine → get_or (after v) b None ≡ get_or (heads v) b None = λ b ne. ap (λ l. get_or l b None) put ∙ get_or-set_other (heads v) mine b head None ne in
      let same_list : (b : ℕ) → (b ≡ mine) ⊎ (b ≢ mine) → IsChain v ds clock (get_or (after v) b None) (filter (test v b) (less v)) = λ b. elim [
        | inl is ↦
            let list : taken_out p (filter (test v mine) order) ≡ filter (test v b) (less v) = filter_swap (test v mine) p order ∙ (λ j. filter (test v (sym is j)) (sym fewer j)) in
            subst (λ (k : Option ℕ × List ℕ). IsChain v ds clock k.0 k.1) (λ j. ((sym here ∙ ap (λ k. get_or (after v) k None) (sym is)) j, list j)) gone.chain
        | inr ne ↦
            let out : test v b p ≡ false = ne_eqb mine b (λ s. ne (sym s)) in
            let list : filter (test v b) (orders v) ≡ filter (test v b) (less v) = ap (filter (test v b)) full ∙ sym (filter_without (test v b) p order out) ∙ ap (filter (test v b)) (sym fewer) in
            let moved = framed_by v cs ds clock (get_or (heads v) b None) (filter (test v b) (orders v)) (λ q m.
            gone.same.others v q (inr (λ n. ne (sym (eqb-true (bucket_in bucket v (item_at was q)) b (member_filter (test v b) q (orders v) m).1) ∙ eqb-true (bucket_in bucket v (item_at was q)) mine (member_filter (test v mine) q order n).1))))
            gone.same.times nodes (part.chains v b) in
            subst (λ (k : Option ℕ × List ℕ). IsChain v ds clock k.0 k.1) (λ j. (sym (elsewhere b ne) j, list j)) moved
      ] in
      record {
        items = λ q. gone.same.items q ∙ part.items q;
        times = λ q. gone.same.times q ∙ part.times q;
        chains = λ w b. elim (same_which w v) [
          | inl is ↦ subst (λ (u : Which). IsChain u ds clock (get_or (after u) b None) (filter (test u b) (less u))) (sym is) (same_list b (same_or_not b mine))
          | inr ne ↦
              let o = others w ne in
              let moved = framed_by w cs ds clock (get_or (heads w) b None) (filter (test w b) (orders w)) (λ q m. gone.same.others w q (inl ne)) gone.same.times nodes (part.chains w b) in
              subst (λ (k : List (Option ℕ) × List ℕ). IsChain w ds clock (get_or k.0 b None) (filter (test w b) k.1)) (λ j. (sym o.1 j, sym o.0 j)) moved
        ];
      }

member_taken : (q p : ℕ) (ps : List ℕ) → Member q ps → q ≢ p → Member q (taken_out p ps)
member_taken q p [] m ne = m
member_taken q p (r ∷ rs) m ne = elim m [
  | inl e ↦ let t : (r == p) ≡ false = ne_eqb r p (λ s. ne (e ∙ s)) in subst (λ b. Member q (cond (not b) (r ∷ taken_out p rs) (taken_out p rs))) (sym t) (inl e)
  | inr n ↦ elim (r == p) as (λ b. Member q (cond (not b) (r ∷ taken_out p rs) (taken_out p rs))) [ true ↦ member_taken q p rs n ne | false ↦ inr (member_taken q p rs n ne) ]
]

member_left : (q p : ℕ) (ps : List ℕ) → Member q (taken_out p ps) → Member q ps × (q ≢ p)
member_left q p ps m = let d = member_filter (λ r. not (r == p)) q ps m in
    (d.0, λ e. let t = eq-eqb q p e in let f = not-true (q == p) d.1 in cc)

module _ {X : Type 0} where
  falls_raised : (cs : List (Option (Node X))) (top higher : ℕ) (ps : List ℕ) → top ≤ higher → Falls cs top ps → Falls cs higher ps
  falls_raised cs top higher [] le h = h
  falls_raised cs top higher (p ∷ ps) le h = (h.0, (let t = h.1 in omega arith), h.2)

  falls_filter : (cs : List (Option (Node X))) (f : ℕ → Bool) (top : ℕ) (ps : List ℕ) → Falls cs top ps → Falls cs top (filter f ps)
  falls_filter cs f top [] h = h
  falls_filter cs f top (p ∷ ps) h =
      let rest = falls_filter cs f (time_at cs p) ps h.2 in
      elim (f p) as (λ b. Falls cs top (cond b (p ∷ filter f ps) (filter f ps))) [ true ↦ (h.0, h.1, rest) | false ↦ falls_raised cs (time_at cs p) top (filter f ps) (let t = h.1 in omega arith) rest ]

  falls_by : (cs ds : List (Option (Node X))) (top : ℕ) (ps : List ℕ) → ((q : ℕ) → Member q ps → (time_at ds q ≡ time_at cs q) × (IsNode cs q → IsNode ds q)) → Falls cs top ps → Falls ds top ps
  falls_by cs _ top [] same h = h
  falls_by cs ds top (p ∷ ps) same h =
      let s = same p (inl refl) in
      (s.1 h.0, subst (λ t. t < top) (sym s.0) h.1, subst (λ t. Falls ds t ps) (sym s.0) (falls_by cs ds (time_at cs p) ps (λ q m. same q (inr m)) h.2))

  -- the place has left all its chains, and then its node is taken out
  pub removed : (bucket : Which → X → ℕ) (was cs es : List (Option (Node X))) (before after : Which → List (Option ℕ)) (order : List ℕ) (clock p : ℕ) → IsLog bucket was before order clock
      → Partly bucket was cs after (λ _. taken_out p order) clock → p < length cs → es ≡ set cs p None → ((w : Which) → length (after w) ≡ length (before w)) → IsLog bucket es after (taken_out p order) clock
  removed bucket was cs es before after order clock p log part within is long =
      let gone : get_or es p None ≡ None = ap (λ l. get_or l p None) is ∙ get_or-set_same cs p None None within in
      let kept : (q : ℕ) → q ≢ p → get_or es q None ≡ get_or cs q None = λ q ne. ap (λ l. get_or l q None) is ∙ get_or-set_other cs p q None None ne in
      let nodes : (q : ℕ) → IsNode was q → IsNode cs q = λ q. node_by_item Op was cs q (part.items q) in
      let back : (q : ℕ) → IsNode cs q → IsNode was q = λ q. node_by_item Op cs was q (sym (part.items q)) in
      record {
        falls = falls_by was es clock (taken_out p order) (λ q m. let ne = (member_left q p order m).1 in (ap time_in (kept q ne) ∙ part.times q, λ n. let k = nodes q n in (k.0, kept q ne ∙ k.1)))
            (falls_filter was (λ q. not (q == p)) clock order log.falls);
        all = λ q n. let ne : q ≢ p = λ e. let a = ap (λ k. get_or es k None) e ∙ gone in let b = n.1 in cc in member_taken q p order (log.all q (back q (n.0, sym (kept q ne) ∙ n.1))) ne;
        buckets = λ w x. let lt = log.buckets w x in let e = long w in omega arith;
        chains = λ w b.
            let list : in_bucket bucket w b was (taken_out p order) ≡ in_bucket bucket w b es (taken_out p order) = filter_alike (λ q. bucket_in bucket w (item_at was q) == b) (λ q. bucket_in bucket w (item_at es q) == b) (taken_out p order)
            (λ q m. ap (λ i. bucket_in bucket w i == b) (sym (ap item_in (kept q (member_left q p order m).1) ∙ part.items q))) in
            subst (IsChain w es clock (get_or (after w) b None)) list
            (framed w cs es clock (get_or (after w) b None) (in_bucket bucket w b was (taken_out p order)) (λ q m. kept q (member_left q p order (member_filter (λ r. bucket_in bucket w (item_at was r) == b) q (taken_out p order) m).0).1) (part.chains w b));
      }

  -- what a test selects lies in one bucket, so the bucket's chain is enough
  pub bucket_enough : (bucket : Which → X → ℕ) (w : Which) (b : ℕ) (cs : List (Option (Node X))) (sel : ℕ × X → Bool) → ((e : ℕ × X) → sel e ≡ true → bucket w e.1 ≡ b)
      → (ps : List ℕ) → filter sel (entries cs (in_bucket bucket w b cs ps)) ≡ filter sel (entries cs ps)
  bucket_enough bucket w b cs sel h [] = refl
  bucket_enough bucket w b cs sel h (p ∷ ps) = go (bucket_enough bucket w b cs sel h ps) (get_or cs p None) refl
    where
      both : (t : Bool) → filter sel (entries cs (cond t (p ∷ in_bucket bucket w b cs ps) (in_bucket bucket w b cs ps))) ≡ cond t (filter sel (with_entry (get_or cs p None) (entries cs (in_bucket bucket w b cs ps)))) (filter sel (entries cs (in_bucket bucket w b cs ps)))
      both true = refl
      both false = refl

      go : filter sel (entries cs (in_bucket bucket w b cs ps)) ≡ filter sel (entries cs ps) → (c : Option (Node X)) → get_or cs p None ≡ c → filter sel (entries cs (in_bucket bucket w b cs (p ∷ ps))) ≡ filter sel (entries cs (p ∷ ps))
      go rest None e =
          both (bucket_in bucket w (item_at cs p) == b) ∙ ap (λ c. cond (bucket_in bucket w (item_at cs p) == b) (filter sel (with_entry c (entries cs (in_bucket bucket w b cs ps)))) (filter sel (entries cs (in_bucket bucket w b cs ps)))) e
          ∙ elim (bucket_in bucket w (item_at cs p) == b) as (λ t. cond t (filter sel (entries cs (in_bucket bucket w b cs ps))) (filter sel (entries cs (in_bucket bucket w b cs ps))) ≡ filter sel (entries cs (in_bucket bucket w b cs ps))) [ true ↦ refl | false ↦ refl ]
          ∙ rest ∙ ap (λ c. filter sel (with_entry c (entries cs ps))) (sym e)
      go rest (Some n) e =
          let r : ℕ × X = (n.time, n.item) in
          let mine : bucket_in bucket w (item_at cs p) ≡ bucket w n.item = ap (λ c. bucket_in bucket w (item_in c)) e in
          let chosen : (t : Bool) → (bucket_in bucket w (item_at cs p) == b) ≡ t → cond t (cond (sel r) (r ∷ filter sel (entries cs ps)) (filter sel (entries cs ps))) (filter sel (entries cs ps)) ≡ cond (sel r) (r ∷ filter sel (entries cs ps)) (filter sel (entries cs ps)) = elim [
            | true ↦ (λ _. refl)
            | false ↦ (λ f. elim (sel r) as (λ s. (sel r ≡ s) → filter sel (entries cs ps) ≡ cond s (r ∷ filter sel (entries cs ps)) (filter sel (entries cs ps))) [
              | true ↦ (λ s. let u = eq-eqb (bucket_in bucket w (item_at cs p)) b (mine ∙ h r s) in absurd (cc))
              | false ↦ (λ _. refl)
            ] refl)
          ] in
          both (bucket_in bucket w (item_at cs p) == b) ∙ ap (λ c. cond (bucket_in bucket w (item_at cs p) == b) (filter sel (with_entry c (entries cs (in_bucket bucket w b cs ps)))) (filter sel (entries cs (in_bucket bucket w b cs ps)))) e
          ∙ ap (λ l. cond (bucket_in bucket w (item_at cs p) == b) (cond (sel r) (r ∷ l) l) l) rest ∙ chosen (bucket_in bucket w (item_at cs p) == b) refl ∙ ap (λ c. filter sel (with_entry c (entries cs ps))) (sym e)

  -- places that hold the same hold the same log
  pub same_log : (bucket : Which → X → ℕ) (cs ds : List (Option (Node X))) (heads : Which → List (Option ℕ)) (order : List ℕ) (clock : ℕ) → ((q : ℕ) → get_or ds q None ≡ get_or cs q None)
      → IsLog bucket cs heads order clock → IsLog bucket ds heads order clock × (entries ds order ≡ entries cs order)
  same_log bucket cs ds heads order clock same log = (
    record {
      falls = falls_framed cs ds clock order (λ q m. same q) log.falls;
      all = λ q is. log.all q (is.0, sym (same q) ∙ is.1);
      buckets = log.buckets;
      chains = λ w b. subst (IsChain w ds clock (get_or (heads w) b None))
          (filter_alike (λ q. bucket_in bucket w (item_at cs q) == b) (λ q. bucket_in bucket w (item_at ds q) == b) order (λ q m. ap (λ c. bucket_in bucket w (item_in c) == b) (sym (same q))))
          (framed w cs ds clock (get_or (heads w) b None) (in_bucket bucket w b cs order) (λ q m. same q) (log.chains w b));
    },
    entries_framed cs ds order (λ q m. same q),
  )
