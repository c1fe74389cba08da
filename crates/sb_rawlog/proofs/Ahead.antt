-- What lies ahead of a walk along a list.
use Rattle.std.proofs.Common.{◌≡◌, ℕ, suc, ◌<◌, ◌≤◌, Bool, true, false, ◌&&◌, cond, nat_le, List, [], ◌∷◌, get_or, Option, Some, None, refl, ap, ◌∙◌, subst, arith}
use Rattle.std.specs.List.{filter}
use Rattle.std.proofs.lemmas.Bool.{lt-leb}
use Rattle.sb_value.specs.declared.change.Change.{Change}
use Rattle.sb_rawlog.specs.declared.node.Which.{Which}
use Rattle.sb_rawlog.specs.declared.node.Node.{Node}
use Rattle.sb_rawlog.specs.Links.{link, time_in, time_at, IsNode, IsChain}
use Rattle.sb_rawlog.specs.Logs.{with_entry, entries}
use Rattle.sb_rawlog.proofs.Chains.{one_chain}
use Rattle.sb_rawlog.specs.Records.{Record}
use Rattle.sb_rawlog.specs.Search.{selects, spot_for, Hit}

-- what the walk selects from the head on it selects from where it stands on
pub record Ahead (w : Which) (sel : Record → Bool) (cs : List (Option (Node Change))) (head at : Option ℕ) : Type 0 where
  pub top : ℕ
  pub rest : List ℕ
  pub chain : IsChain w cs top at rest
  pub same : (high : ℕ) (ps : List ℕ) → IsChain w cs high head ps → filter sel (entries cs ps) ≡ filter sel (entries cs rest)

abbrev pub left : List (Option (Node Change)) → Option ℕ → ℕ
left cs None = 0
left cs (Some p) = suc (time_at cs p)

module _ (w : Which) (p : Change → Bool) (since : ℕ) (cs : List (Option (Node Change))) (head : Option ℕ) where
  abbrev sel : Record → Bool
  sel = selects p since

  pub starts : (top : ℕ) (ps : List ℕ) → IsChain w cs top head ps → Ahead w sel cs head head
  starts top ps h = record { top = top; rest = ps; chain = h; same = λ high qs k. ap (λ l. filter sel (entries cs l)) (one_chain w cs high top head qs ps k h) }

  pub ends : Ahead w sel cs head None → (high : ℕ) (ps : List ℕ) → IsChain w cs high head ps → filter sel (entries cs ps) ≡ []
  ends a high ps h = a.same high ps h ∙ go a.rest a.chain
    where
      go : (rest : List ℕ) → IsChain w cs a.top None rest → filter sel (entries cs rest) ≡ []
      go [] k = refl
      go (q ∷ qs) k = let e = k.0 in absurd (cc)

  -- the place that the walk stands at, and the chain behind it
  at_node : (q : ℕ) (n : Node Change) → get_or cs q None ≡ Some n → (top : ℕ) (rest : List ℕ) → IsChain w cs top (Some q) rest
      → (qs : List ℕ) × (entries cs rest ≡ (n.time, n.item) ∷ entries cs qs) × IsChain w cs n.time (link w cs q) qs
  at_node q n e top [] k = let f = k in absurd (cc)
  at_node q n e top (r ∷ qs) k =
      let f = k.0 in let same : r ≡ q = cc in
      let there : get_or cs r None ≡ Some n = ap (λ i. get_or cs i None) same ∙ e in
      (qs, ap (λ c. with_entry c (entries cs qs)) there, subst (λ (z : ℕ × ℕ). IsChain w cs z.0 (link w cs z.1) qs) (λ j. (ap time_in there j, same j)) k.3)

  pub is_node : (q : ℕ) → Ahead w sel cs head (Some q) → IsNode cs q
  is_node q a = go a.rest a.chain
    where
      go : (rest : List ℕ) → IsChain w cs a.top (Some q) rest → IsNode cs q
      go [] k = let f = k in absurd (cc)
      go (r ∷ qs) k = let f = k.0 in let same : r ≡ q = cc in subst (IsNode cs) same k.1

  pub goes_on : (q : ℕ) (n : Node Change) → get_or cs q None ≡ Some n → Ahead w sel cs head (Some q) → sel (n.time, n.item) ≡ false → Ahead w sel cs head (link w cs q) × (left cs (link w cs q) < left cs (Some q))
  goes_on q n e a miss =
      let b = at_node q n e a.top a.rest a.chain in (
        record {
          top = n.time;
          rest = b.0;
          chain = b.2;
          same = λ high ps h. a.same high ps h ∙ ap (filter sel) b.1 ∙ ap (λ t. cond t ((n.time, n.item) ∷ filter sel (entries cs b.0)) (filter sel (entries cs b.0))) miss;
        },
        falls (link w cs q) b.0 b.2 (ap time_in e),
      )
    where
      falls : (at : Option ℕ) (qs : List ℕ) → IsChain w cs n.time at qs → time_at cs q ≡ n.time → left cs at < suc (time_at cs q)
      falls None qs k t = omega arith
      falls (Some r) [] k t = let f = k in absurd (cc)
      falls (Some r) (i ∷ qs) k t = let f = k.0 in let same : i ≡ r = cc in let u : time_at cs r < n.time = subst (λ z. time_at cs z < n.time) same k.2 in omega arith

  pub finds : (q : ℕ) (n : Node Change) → get_or cs q None ≡ Some n → Ahead w sel cs head (Some q) → p n.item ≡ true → sel (n.time, n.item) ≡ true → (high : ℕ) (ps : List ℕ) → IsChain w cs high head ps
      → Hit p since cs ps (spot_for q since n)
  finds q n e a good chosen high ps h =
      let b = at_node q n e a.top a.rest a.chain in
      record {
        node = n;
        here = e;
        is = refl;
        fits = good;
        rest = filter sel (entries cs b.0);
        first = a.same high ps h ∙ ap (filter sel) b.1 ∙ ap (λ t. cond t ((n.time, n.item) ∷ filter sel (entries cs b.0)) (filter sel (entries cs b.0))) chosen;
      }

  -- all that is behind an older one is older still
  old_none : (top : ℕ) (at : Option ℕ) (ps : List ℕ) → top ≤ since → IsChain w cs top at ps → filter sel (entries cs ps) ≡ []
  old_none top at [] le h = refl
  old_none top at (q ∷ qs) le h =
      let lt = h.2 in let n = h.1.0 in let when : time_at cs q ≡ n.time = ap time_in h.1.1 in
      let t : nat_le since n.time ≡ false = lt-leb since n.time (omega arith) in
      ap (λ c. filter sel (with_entry c (entries cs qs))) h.1.1 ∙ ap (λ b. cond (b && p n.item) ((n.time, n.item) ∷ filter sel (entries cs qs)) (filter sel (entries cs qs))) t
      ∙ old_none (time_at cs q) (link w cs q) qs (omega arith) h.3

  pub too_old : (q : ℕ) (n : Node Change) → get_or cs q None ≡ Some n → n.time < since → Ahead w sel cs head (Some q) → (high : ℕ) (ps : List ℕ) → IsChain w cs high head ps → filter sel (entries cs ps) ≡ []
  too_old q n e lt a high ps h =
      let b = at_node q n e a.top a.rest a.chain in
      let t : nat_le since n.time ≡ false = lt-leb since n.time lt in
      a.same high ps h ∙ ap (filter sel) b.1 ∙ ap (λ s. cond (s && p n.item) ((n.time, n.item) ∷ filter sel (entries cs b.0)) (filter sel (entries cs b.0))) t
      ∙ old_none n.time (link w cs q) b.0 (omega arith) b.2
