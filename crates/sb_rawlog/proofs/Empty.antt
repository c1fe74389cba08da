-- An empty log in places.
use Rattle.std.proofs.Common.{◌≡◌, ℕ, zero, suc, ◌+◌, ◌*◌, ◌<◌, List, [], length, get_or, replicate, Option, None, refl, sym, ap, subst, arith, mod-lt}
use Rattle.std.proofs.lemmas.List.{length-replicate}
use Rattle.sb_value.specs.declared.change.Change.{Change}
use Rattle.sb_rawlog.specs.declared.node.Which.{Which}
use Rattle.sb_rawlog.specs.declared.node.Which.TheVariants.{Op, Tuple, Session}
use Rattle.sb_rawlog.specs.declared.node.Node.{Node}
use Rattle.sb_rawlog.specs.Links.{Member}
use Rattle.sb_rawlog.specs.Logs.{IsLog}
use Rattle.sb_rawlog.specs.Buckets.{bucket, by_which, session_number}
use Rattle.sb_rawlog.specs.Fields.{IsRaw}
use Rattle.sb_rawlog.specs.Places.{HoldsLog, Apart}
use Rattle.sb_rawlog.specs.declared.raw.RawLog.TheInside.{Inside}

nones : {X : Type 0} (n i : ℕ) → ◌≡◌ {A = Option X} (get_or (replicate n None) i None) None
nones zero i = refl
nones (suc n) zero = refl
nones (suc n) (suc i) = nones n i

count : (n : ℕ) → length (replicate {A = Option ℕ} n None) ≡ n
count n = length-replicate n None

session_below : (t s : ℕ) → session_number t s < 2048
unfolding session_number
session_below t s = mod-lt (t * 8 + s) (omega arith)

module _ (n m : ℕ) (positive : 0 < n) (positive_too : 0 < m) where
  abbrev heads : Which → List (Option ℕ)
  heads = by_which (replicate n None) (replicate m None) (replicate 2048 None)

  within : (w : Which) (c : Change) → bucket n m w c < length (heads w)
  within Op c = let below = mod-lt _ positive in subst (λ k. bucket n m Op c < k) (sym (count n)) below
  within Tuple c = let below = mod-lt _ positive_too in subst (λ k. bucket n m Tuple c < k) (sym (count m)) below
  within Session c = subst (λ k. bucket n m Session c < k) (sym (count 2048)) (session_below c.tenant c.session)

  no_heads : (w : Which) (b : ℕ) → get_or (heads w) b None ≡ None
  no_heads Op b = nones n b
  no_heads Tuple b = nones m b
  no_heads Session b = nones 2048 b

  empty_log : IsLog (bucket n m) [] heads [] 0
  empty_log = record {
    falls = tt;
    all = λ p is. let e = is.1 in absurd (cc);
    buckets = within;
    chains = no_heads;
  }

  empty_holds : HoldsLog [] (replicate n None) (replicate m None) (replicate 2048 None) [] 0
  empty_holds = record {
    buckets = omega (arith, count n);
    of_tuples = omega (arith, count m);
    of_sessions = count 2048;
    log = subst (λ (k : ℕ × ℕ). IsLog (bucket k.0 k.1) [] heads [] 0) (λ j. (sym (count n) j, sym (count m) j)) empty_log;
  }

pub empty : (n m : ℕ) → 0 < n → 0 < m → (a : Inside) → a.used ≡ 0 → a.clock ≡ 0 → a.room ≡ 0 → a.arena ≡ [] → a.heads.ops.items ≡ replicate n None → a.heads.tuples.items ≡ replicate m None → a.heads.sessions.items ≡ replicate 2048 None → a.free.items ≡ [] → IsRaw a
empty n m positive positive_too a used clock room arena ops tuples sessions free = record {
  order = [];
  holds = subst (λ (z : List (Option (Node Change)) × (List (Option ℕ) × (List (Option ℕ) × (List (Option ℕ) × ℕ)))). HoldsLog z.0 z.1.0 z.1.1.0 z.1.1.1.0 [] z.1.1.1.1)
      (λ j. (sym arena j, (sym ops j, (sym tuples j, (sym sessions j, sym clock j))))) (empty_holds n m positive positive_too);
  free = record {
    within = omega (arith, used);
    given_back = λ p m. absurd (subst (Member p) free m);
    apart = subst Apart (sym free) tt;
    unused = λ p le. ap (λ l. get_or l p None) arena;
  };
  counted = (let l = ap length free in omega (arith, used));
  roomy = (let l = ap length arena in omega arith);
  spare = (let l = ap length free in let m = ap length arena in omega (arith, used, room));
}
