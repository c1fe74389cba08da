-- What holds of chains of places whose times fall.
use Rattle.std.proofs.Common.{◌≡◌, ◌≢◌, ℕ, zero, suc, ◌<◌, ◌≤◌, Bool, true, false, ◌==◌, ◌⊎◌, inl, inr, List, [], ◌∷◌, ◌++◌, length, get_or, set, Option, Some, None, refl, sym, ap, ◌∙◌, subst, arith, append_assoc, length-set, get_or-set_same, get_or-set_other, eq-eqb, ne_eqb, eqb-true}
use Rattle.sb_rawlog.specs.declared.node.Which.{Which}
use Rattle.sb_rawlog.specs.declared.node.Which.TheVariants.{Op, Tuple, Session}
use Rattle.sb_rawlog.specs.declared.node.Links.{Links as LinksOf}
use Rattle.sb_rawlog.specs.declared.node.Node.{Node}
use Rattle.sb_rawlog.specs.Links.{link_of, with_link, link_in, link, time_in, time_at, item_in, item_at, IsNode, relink, relinked, IsChain, SameBut, Member, taken_out, Leaves}

pub same_or_not : (a b : ℕ) → (a ≡ b) ⊎ (a ≢ b)
same_or_not a b = go (a == b) refl
  where
    go : (t : Bool) → (a == b) ≡ t → (a ≡ b) ⊎ (a ≢ b)
    go true e = inl (eqb-true a b e)
    go false e = inr (λ s. let f = eq-eqb a b s in cc)

link_same : (list : Which) (to : Option ℕ) (l : LinksOf) → link_of list (with_link list to l) ≡ to
link_same Op to l = refl
link_same Tuple to l = refl
link_same Session to l = refl

link_else : (j list : Which) (to : Option ℕ) (l : LinksOf) → j ≢ list → link_of j (with_link list to l) ≡ link_of j l
link_else Op Op to l ne = absurd (ne refl)
link_else Op Tuple to l ne = refl
link_else Op Session to l ne = refl
link_else Tuple Op to l ne = refl
link_else Tuple Tuple to l ne = absurd (ne refl)
link_else Tuple Session to l ne = refl
link_else Session Op to l ne = refl
link_else Session Tuple to l ne = refl
link_else Session Session to l ne = absurd (ne refl)

module _ {X : Type 0} where
  pub node_within : (cs : List (Option (Node X))) (p : ℕ) → IsNode cs p → p < length cs
  node_within [] p n = let e = n.1 in absurd (cc)
  node_within (c ∷ cs) zero n = omega arith
  node_within (c ∷ cs) (suc p) n = let m = node_within cs p n in omega arith

  pub set_again : (cs : List (Option (Node X))) (p : ℕ) (a b : Option (Node X)) → set (set cs p a) p b ≡ set cs p b
  set_again [] p a b = refl
  set_again (c ∷ cs) zero a b = refl
  set_again (c ∷ cs) (suc p) a b = ap (λ l. c ∷ l) (set_again cs p a b)

  module _ (list : Which) (cs : List (Option (Node X))) where
    -- the times are below the top
    pub below : (top : ℕ) (at : Option ℕ) (ps : List ℕ) (q : ℕ) → IsChain list cs top at ps → Member q ps → time_at cs q < top
    below top at [] q h m = absurd m
    below top at (p ∷ ps) q h m = elim m [
      | inl e ↦ subst (λ k. time_at cs k < top) (sym e) h.2
      | inr r ↦ let t = below (time_at cs p) (link list cs p) ps q h.3 r in omega (arith, h.2)
    ]

    pub raised : (top higher : ℕ) (at : Option ℕ) (ps : List ℕ) → top ≤ higher → IsChain list cs top at ps → IsChain list cs higher at ps
    raised top higher at [] le h = h
    raised top higher at (p ∷ ps) le h = (h.0, h.1, omega (arith, h.2), h.3)

    -- a place has one chain
    pub one_chain : (top higher : ℕ) (at : Option ℕ) (ps qs : List ℕ) → IsChain list cs top at ps → IsChain list cs higher at qs → ps ≡ qs
    one_chain top higher at [] [] h k = refl
    one_chain top higher at [] (q ∷ qs) h k = let a = k.0 in absurd (cc)
    one_chain top higher at (p ∷ ps) [] h k = let a = h.0 in absurd (cc)
    one_chain top higher at (p ∷ ps) (q ∷ qs) h k =
        let a = h.0 in let b = k.0 in let same : p ≡ q = cc in
        let rest : IsChain list cs (time_at cs q) (link list cs p) qs = subst (λ j. IsChain list cs (time_at cs q) (link list cs j) qs) (sym same) k.3 in
        (λ j. same j ∷ one_chain (time_at cs p) (time_at cs q) (link list cs p) ps qs h.3 rest j)

    -- a chain in places that have its links and times
    pub framed : (ds : List (Option (Node X))) (top : ℕ) (at : Option ℕ) (ps : List ℕ) → ((q : ℕ) → Member q ps → get_or ds q None ≡ get_or cs q None) → IsChain list cs top at ps → IsChain list ds top at ps
    framed ds top at [] same h = h
    framed ds top at (p ∷ ps) same h =
        let e = same p (inl refl) in
        let rest = framed ds (time_at cs p) (link list cs p) ps (λ q m. same q (inr m)) h.3 in
        (h.0, (h.1.0, e ∙ h.1.1), subst (λ (c : Option (Node X)). time_in c < top) (sym e) h.2, subst (λ (c : Option (Node X)). IsChain list ds (time_in c) (link_in list c) ps) (sym e) rest)

    pub taken-none : (p : ℕ) (qs : List ℕ) → (Member p qs → ⊥) → taken_out p qs ≡ qs
    taken-none p [] no_one = refl
    taken-none p (q ∷ qs) no_one = let e : (q == p) ≡ false = ne_eqb q p (λ s. no_one (inl (sym s))) in rw e (ap (λ l. q ∷ l) (taken-none p qs (λ m. no_one (inr m))))

    member_there : (xs : List ℕ) (p : ℕ) (bs : List ℕ) → Member p (xs ++ p ∷ bs)
    member_there [] p bs = inl refl
    member_there (a ∷ xs) p bs = inr (member_there xs p bs)

    -- a place is once in its chain
    pub taken : (xs : List ℕ) (p : ℕ) (bs : List ℕ) (top : ℕ) (at : Option ℕ) → IsChain list cs top at (xs ++ p ∷ bs) → taken_out p (xs ++ p ∷ bs) ≡ xs ++ bs
    taken [] p bs top at h =
        let e = eq-eqb p p refl in
        rw e (taken-none p bs (λ m. let t = below (time_at cs p) (link list cs p) bs p h.3 m in omega arith))
    taken (a ∷ xs) p bs top at h =
        let t = below (time_at cs a) (link list cs a) (xs ++ p ∷ bs) p h.3 (member_there xs p bs) in
        let e : (a == p) ≡ false = ne_eqb a p (λ s. let u : time_at cs a ≡ time_at cs p = ap (time_at cs) s in omega arith) in
        rw e (ap (λ l. a ∷ l) (taken xs p bs (time_at cs a) (link list cs a) h.3))

    module _ (p : ℕ) (to : Option ℕ) where
      pub at_other : (q : ℕ) → q ≢ p → get_or (relinked list p to cs) q None ≡ get_or cs q None
      at_other q ne = get_or-set_other cs p q (relink list to (get_or cs p None)) None ne

      pub at_same : p < length cs → get_or (relinked list p to cs) p None ≡ relink list to (get_or cs p None)
      at_same lt = get_or-set_same cs p (relink list to (get_or cs p None)) None lt

      time_kept : (c : Option (Node X)) → time_in (relink list to c) ≡ time_in c
      time_kept None = refl
      time_kept (Some n) = refl

      item_kept : (c : Option (Node X)) → item_in (relink list to c) ≡ item_in c
      item_kept None = refl
      item_kept (Some n) = refl

      pub node_of : (ds : List (Option (Node X))) → IsNode cs p → get_or ds p None ≡ relink list to (get_or cs p None) → IsNode ds p
      node_of ds n e = (_, e ∙ ap (relink list to) n.1)

      link_set : (n : Node X) → link_in list (relink list to (Some n)) ≡ to
      link_set n = link_same list to n.links

      link_other : (j : Which) (c : Option (Node X)) → j ≢ list → link_in j (relink list to c) ≡ link_in j c
      link_other j None ne = refl
      link_other j (Some n) ne = link_else j list to n.links ne

      pub same_but : (ps : List ℕ) → IsNode cs p → Member p ps → SameBut list ps cs (relinked list p to cs)
      same_but ps is m = let lt = node_within cs p is in record {
        long = length-set cs p (relink list to (get_or cs p None));
        items = λ q. elim (same_or_not q p) [ inl e ↦ subst (λ k. item_at (relinked list p to cs) k ≡ item_at cs k) (sym e) (ap item_in (at_same lt) ∙ item_kept (get_or cs p None)) | inr ne ↦ ap item_in (at_other q ne) ];
        times = λ q. elim (same_or_not q p) [ inl e ↦ subst (λ k. time_at (relinked list p to cs) k ≡ time_at cs k) (sym e) (ap time_in (at_same lt) ∙ time_kept (get_or cs p None)) | inr ne ↦ ap time_in (at_other q ne) ];
        others = λ j q why. elim (same_or_not q p) [
          | inl e ↦ elim why [ inl ne ↦ subst (λ k. link j (relinked list p to cs) k ≡ link j cs k) (sym e) (ap (link_in j) (at_same lt) ∙ link_other j (get_or cs p None) ne) | inr out ↦ absurd (out (subst (λ k. Member k ps) (sym e) m)) ]
          | inr ne ↦ ap (link_in j) (at_other q ne)
        ];
      }

    -- the link of a place in a chain is moved past the next one
    pub spliced : (ds : List (Option (Node X))) (at p : ℕ) → ds ≡ relinked list at (link list cs p) cs → link list ds at ≡ link list cs p
        → (xs bs : List ℕ) (top : ℕ) (head : Option ℕ) → IsChain list cs top head (xs ++ at ∷ p ∷ bs) → IsChain list ds top head (xs ++ at ∷ bs)
    spliced ds at p is goes [] bs top head h =
        let lt = node_within cs at h.1 in
        let rest = h.3 in
        let e : get_or ds at None ≡ relink list (link list cs p) (get_or cs at None) = ap (λ l. get_or l at None) is ∙ at_same at (link list cs p) lt in
        let when : time_at ds at ≡ time_at cs at = ap time_in e ∙ time_kept at (link list cs p) (get_or cs at None) in
        let node : IsNode ds at = node_of at (link list cs p) ds h.1 e in
        let tail : IsChain list cs (time_at cs at) (link list cs p) bs = raised (time_at cs p) (time_at cs at) (link list cs p) bs (omega (arith, rest.2)) rest.3 in
        let moved : IsChain list ds (time_at cs at) (link list cs p) bs = framed ds (time_at cs at) (link list cs p) bs (λ q m.
        ap (λ l. get_or l q None) is ∙ at_other at (link list cs p) q (λ s. let t = below (time_at cs at) (link list cs p) bs q tail m in let u : time_at cs q ≡ time_at cs at = ap (time_at cs) s in omega arith)) tail in
        (h.0, node, omega (arith, when, h.2), subst (λ (k : ℕ × Option ℕ). IsChain list ds k.0 k.1 bs) (λ j. (sym when j, sym goes j)) moved)
    spliced ds at p is goes (a ∷ xs) bs top head h =
        let t = below (time_at cs a) (link list cs a) (xs ++ at ∷ p ∷ bs) at h.3 (member_there xs at (p ∷ bs)) in
        let ne : a ≢ at = λ s. let u : time_at cs a ≡ time_at cs at = ap (time_at cs) s in omega arith in
        let e : get_or ds a None ≡ get_or cs a None = ap (λ l. get_or l a None) is ∙ at_other at (link list cs p) a ne in
        let rest = spliced ds at p is goes xs bs (time_at cs a) (link list cs a) h.3 in
        (h.0, (h.1.0, e ∙ h.1.1), subst (λ (c : Option (Node X)). time_in c < top) (sym e) h.2, subst (λ (c : Option (Node X)). IsChain list ds (time_in c) (link_in list c) (xs ++ at ∷ bs)) (sym e) rest)

    -- what remains of a chain past a place
    pub suffix : (xs : List ℕ) (at : ℕ) (bs : List ℕ) (top : ℕ) (head : Option ℕ) → IsChain list cs top head (xs ++ at ∷ bs) → IsNode cs at × IsChain list cs (time_at cs at) (link list cs at) bs
    suffix [] at bs top head h = (h.1, h.3)
    suffix (x ∷ xs) at bs top head h = suffix xs at bs (time_at cs x) (link list cs x) h.3

-- a walk from the head stands at a place, and the one that is looked for lies past it
pub record Walking {X : Type 0} (list : Which) (cs : List (Option (Node X))) (head : Option ℕ) (place at : ℕ) : Type 0 where
  pub top : ℕ
  pub passed : List ℕ
  pub rest : List ℕ
  pub chain : IsChain list cs top head (passed ++ at ∷ rest)
  pub ahead : Member place rest

module _ {X : Type 0} (list : Which) where
  pub relinked_is : (cs ds es : List (Option (Node X))) (p : ℕ) (n : Node X) (to : Option ℕ) (ls : LinksOf) → Some n ≡ get_or cs p None → ds ≡ set cs p None → ls ≡ with_link list to n.links
      → es ≡ set ds p (Some (record { time = n.time; links = ls; back = n.back; item = n.item })) → (es ≡ relinked list p to cs) × (link list es p ≡ to)
  relinked_is cs ds es p n to ls e f k m =
      let made : Option (Node X) = Some (record { time = n.time; links = with_link list to n.links; back = n.back; item = n.item }) in
      let is : es ≡ relinked list p to cs = m ∙ (λ j. set (f j) p (Some (record { time = n.time; links = k j; back = n.back; item = n.item }))) ∙ set_again cs p None made ∙ ap (λ c. set cs p (relink list to c)) e in
      (is, ap (λ l. link list l p) is ∙ ap (link_in list) (at_same list cs p to (node_within cs p (n, sym e)) ∙ ap (relink list to) (sym e)) ∙ link_same list to n.links)

  module _ (cs : List (Option (Node X))) (head : Option ℕ) (place : ℕ) where
    pub starts : (top : ℕ) (ps : List ℕ) (first : ℕ) → IsChain list cs top head ps → Member place ps → head ≡ Some first → first ≢ place → Walking list cs head place first
    starts top [] first h m e ne = absurd m
    starts top (p ∷ ps) first h m e ne =
        let a = h.0 in let same : p ≡ first = cc in
        record {
          top = top;
          passed = [];
          rest = ps;
          chain = subst (λ k. IsChain list cs top head (k ∷ ps)) same h;
          ahead = elim m [ inl is ↦ absurd (ne (sym same ∙ sym is)) | inr r ↦ r ];
        }

    pub no_head : (top : ℕ) (ps : List ℕ) → IsChain list cs top head ps → Member place ps → head ≡ None → ⊥
    no_head top [] h m e = m
    no_head top (p ∷ ps) h m e = let a = h.0 in cc

    pub node_here : (at : ℕ) → Walking list cs head place at → IsNode cs at
    node_here at w = (suffix list cs w.passed at w.rest w.top head w.chain).0

    pub no_end : (at : ℕ) → Walking list cs head place at → link list cs at ≡ None → ⊥
    no_end at w e = go w.rest (suffix list cs w.passed at w.rest w.top head w.chain).1 w.ahead
      where
        go : (rest : List ℕ) → IsChain list cs (time_at cs at) (link list cs at) rest → Member place rest → ⊥
        go [] h m = m
        go (b ∷ bs) h m = let a = h.0 in cc

    pub goes_on : (at next : ℕ) → Walking list cs head place at → link list cs at ≡ Some next → next ≢ place → Walking list cs head place next × (time_at cs next < time_at cs at)
    goes_on at next w e ne = go w.rest (suffix list cs w.passed at w.rest w.top head w.chain).1 w.chain w.ahead
      where
        go : (rest : List ℕ) → IsChain list cs (time_at cs at) (link list cs at) rest → IsChain list cs w.top head (w.passed ++ at ∷ rest) → Member place rest → Walking list cs head place next × (time_at cs next < time_at cs at)
        go [] h all m = absurd m
        go (b ∷ bs) h all m =
            let a = h.0 in let same : b ≡ next = cc in
            let long : w.passed ++ at ∷ b ∷ bs ≡ (w.passed ++ at ∷ []) ++ next ∷ bs = ap (λ k. w.passed ++ at ∷ k ∷ bs) same ∙ sym (append_assoc w.passed (at ∷ []) (next ∷ bs)) in (
              record {
                top = w.top;
                passed = w.passed ++ at ∷ [];
                rest = bs;
                chain = subst (IsChain list cs w.top head) long all;
                ahead = elim m [ inl is ↦ absurd (ne (sym same ∙ sym is)) | inr r ↦ r ];
              },
              subst (λ k. time_at cs k < time_at cs at) same h.2,
            )

    -- the place was first in its chain
    pub leaves_first : (top : ℕ) (ps : List ℕ) → IsChain list cs top head ps → Member place ps → head ≡ Some place → Leaves list place top ps cs cs (link list cs place)
    leaves_first top [] h m e = absurd m
    leaves_first top (p ∷ ps) h m e =
        let a = h.0 in let same : p ≡ place = cc in
        let tail : IsChain list cs top (link list cs p) ps = raised list cs (time_at cs p) top (link list cs p) ps (let t = h.2 in omega arith) h.3 in
        let out : taken_out place (p ∷ ps) ≡ ps = ap (λ k. taken_out k (p ∷ ps)) (sym same) ∙ taken list cs [] p ps top head h in
        record {
          chain = subst (λ (k : Option ℕ × List ℕ). IsChain list cs top k.0 k.1) (λ j. (ap (link list cs) same j, sym out j)) tail;
          same = record { long = refl; items = λ q. refl; times = λ q. refl; others = λ j q why. refl };
        }

    -- it came after another
    pub leaves_later : (ds : List (Option (Node X))) (at top : ℕ) (ps : List ℕ) → IsChain list cs top head ps → Walking list cs head place at
        → link list cs at ≡ Some place → ds ≡ relinked list at (link list cs place) cs → link list ds at ≡ link list cs place → Leaves list place top ps cs ds head
    leaves_later ds at top ps h w e f goes = go w.rest (suffix list cs w.passed at w.rest w.top head w.chain).1 w.chain w.ahead
      where
        go : (rest : List ℕ) → IsChain list cs (time_at cs at) (link list cs at) rest → IsChain list cs w.top head (w.passed ++ at ∷ rest) → Member place rest → Leaves list place top ps cs ds head
        go [] k all m = absurd m
        go (b ∷ bs) k all m =
            let a = k.0 in let same : b ≡ place = cc in
            let all2 : IsChain list cs w.top head (w.passed ++ at ∷ place ∷ bs) = subst (λ z. IsChain list cs w.top head (w.passed ++ at ∷ z ∷ bs)) same all in
            let one : ps ≡ w.passed ++ at ∷ place ∷ bs = one_chain list cs top w.top head ps (w.passed ++ at ∷ place ∷ bs) h all2 in
            let mine : IsChain list cs top head (w.passed ++ at ∷ place ∷ bs) = subst (IsChain list cs top head) one h in
            let apart : w.passed ++ at ∷ place ∷ bs ≡ (w.passed ++ at ∷ []) ++ place ∷ bs = sym (append_assoc w.passed (at ∷ []) (place ∷ bs)) in
            let out : taken_out place ps ≡ w.passed ++ at ∷ bs =
            ap (taken_out place) (one ∙ apart) ∙ taken list cs (w.passed ++ at ∷ []) place bs top head (subst (IsChain list cs top head) apart mine) ∙ append_assoc w.passed (at ∷ []) bs in
            let cut = spliced list cs ds at place f goes w.passed bs top head mine in
            let there : Member at ps = subst (Member at) (sym one) (member_there list cs w.passed at (place ∷ bs)) in
            record {
              chain = subst (IsChain list ds top head) (sym out) cut;
              same = subst (SameBut list ps cs) (sym f) (same_but list cs at (link list cs place) ps (node_here at w) there);
            }

  pub member_node : (cs : List (Option (Node X))) (top : ℕ) (at : Option ℕ) (ps : List ℕ) (q : ℕ) → IsChain list cs top at ps → Member q ps → IsNode cs q
  member_node cs top at [] q h m = absurd m
  member_node cs top at (p ∷ ps) q h m = elim m [ inl e ↦ subst (IsNode cs) (sym e) h.1 | inr r ↦ member_node cs (time_at cs p) (link list cs p) ps q h.3 r ]

  -- a chain in places that have its links, times and nodes
  pub framed_by : (cs ds : List (Option (Node X))) (top : ℕ) (at : Option ℕ) (ps : List ℕ) → ((q : ℕ) → Member q ps → link list ds q ≡ link list cs q) → ((q : ℕ) → time_at ds q ≡ time_at cs q)
      → ((q : ℕ) → IsNode cs q → IsNode ds q) → IsChain list cs top at ps → IsChain list ds top at ps
  framed_by cs ds top at [] links times nodes h = h
  framed_by cs ds top at (p ∷ ps) links times nodes h =
      let rest = framed_by cs ds (time_at cs p) (link list cs p) ps (λ q m. links q (inr m)) times nodes h.3 in
      (h.0, nodes p h.1, subst (λ t. t < top) (sym (times p)) h.2, subst (λ (k : ℕ × Option ℕ). IsChain list ds k.0 k.1 ps) (λ j. (sym (times p) j, sym (links p (inl refl)) j)) rest)

  pub node_by_item : (cs ds : List (Option (Node X))) (q : ℕ) → item_at ds q ≡ item_at cs q → IsNode cs q → IsNode ds q
  node_by_item cs ds q e n = go (get_or ds q None) refl
    where
      go : (c : Option (Node X)) → get_or ds q None ≡ c → IsNode ds q
      go None f = let a : item_in (get_or ds q None) ≡ Some n.0.item = e ∙ ap item_in n.1 in let b : item_in (get_or ds q None) ≡ None = ap item_in f in absurd (cc)
      go (Some m) f = (m, f)
