-- What the steps of a plain log answer, from the index that was found.
use Rattle.std.proofs.Common.{◌≡◌, ℕ, ◌+◌, Bool, true, not, ◌==◌, List, [], ◌∷◌, ◌++◌, length, take, drop, Some, slice_get, refl, sym, ap, ◌∙◌, subst}
use Rattle.std.proofs.Math.Seq.{take-length}
use Rattle.sb_value.specs.declared.id.Who.{Who}
use Rattle.sb_value.specs.declared.change.ChangeKind.{ChangeKind}
use Rattle.sb_value.specs.declared.change.ChangeKind.TheVariants.{Inserted, Deleted, Updated}
use Rattle.sb_value.specs.declared.change.Change.{Change}
use Rattle.sb_rawlog.specs.Changes.{same_kind, is_by}
use Rattle.sb_rawlog.specs.Records.{Record, Rising, walk, before, without, others, change_at}
use Rattle.sb_rawlog.specs.Found.{Found}
use Rattle.sb_rawlog.specs.Steps.{Newest}
use Rattle.sb_rawlog.proofs.Rises.{split_at, without-split, rising-filter}

pub same_kind-eq : (a b : ChangeKind) → same_kind a b ≡ true → a ≡ b
same_kind-eq Inserted Inserted e = refl
same_kind-eq Inserted Deleted e = absurd (cc)
same_kind-eq Inserted Updated e = absurd (cc)
same_kind-eq Deleted Inserted e = absurd (cc)
same_kind-eq Deleted Deleted e = refl
same_kind-eq Deleted Updated e = absurd (cc)
same_kind-eq Updated Inserted e = absurd (cc)
same_kind-eq Updated Deleted e = absurd (cc)
same_kind-eq Updated Updated e = refl

module _ (p : Change → Bool) (since : ℕ) (rs todo : List Record) (i : ℕ) (r : Record) (f : Found p since rs todo i) (e : slice_get rs i ≡ Some r) where
  is_it : f.record_at ≡ r
  is_it = let a = f.is in cc

  pub it_here : change_at r.0 rs ≡ Some r.1
  it_here = subst (λ (q : Record). change_at q.0 rs ≡ Some q.1) is_it f.here

  pub it_first : todo ≡ (r.0, r.1) ∷ walk p since (before r.0 rs)
  it_first = subst (λ (q : Record). todo ≡ q ∷ walk p since (before q.0 rs)) is_it f.first

  pub it_fits : p r.1 ≡ true
  it_fits = subst (λ (q : Record). p q.1 ≡ true) is_it f.fits

abbrev pub newest_found : (who : Who) (rs todo : List Record) (i : ℕ) (r : Record) → Found (is_by who) 0 rs todo i → todo ≡ walk (is_by who) 0 rs → slice_get rs i ≡ Some r → Newest who rs r.1
newest_found who rs todo i r f is e = record { time = r.0; here = it_here (is_by who) 0 rs todo i r f e; first = sym is ∙ it_first (is_by who) 0 rs todo i r f e }

-- what was found in a list that is the log's: in all of it
pub from_all : (p : Change → Bool) (since : ℕ) (ds rs : List Record) (end i : ℕ) → ds ≡ rs → end ≡ length rs → Found p since ds (walk p since (take end ds)) i → Found p since rs (walk p since rs) i
from_all p since ds rs end i same whole f =
    subst (λ (l : List Record). Found p since rs (walk p since l) i) (ap (λ n. take n rs) whole ∙ take-length rs) (subst (λ (l : List Record). Found p since l (walk p since (take end l)) i) same f)

pub none_from_all : (p : Change → Bool) (since : ℕ) (ds rs : List Record) (end : ℕ) → ds ≡ rs → end ≡ length rs → walk p since (take end ds) ≡ [] → walk p since rs ≡ []
none_from_all p since ds rs end same whole none = ap (walk p since) (sym (take-length rs) ∙ (λ j. take (sym whole j) (sym same j))) ∙ none

-- what is left when a record is taken out
pub removed : (rs news : List Record) (clock i : ℕ) (r : Record) → Rising 0 rs clock → slice_get rs i ≡ Some r → news ≡ take i rs ++ drop (i + 1) rs → news ≡ without r.0 rs
removed rs news clock i r up e is =
    let cut = (split_at rs i r e).0 in
    is ∙ sym (ap (without r.0) cut ∙ without-split r (drop (i + 1) rs) 0 (take i rs) clock (subst (λ (l : List Record). Rising 0 l clock) cut up))

pub rising-without : (t : ℕ) (rs news : List Record) (clock : ℕ) → news ≡ without t rs → Rising 0 rs clock → Rising 0 news clock
unfolding without
rising-without t rs news clock is up = subst (λ (l : List Record). Rising 0 l clock) (sym is) (rising-filter (λ r. not (r.0 == t)) 0 rs clock up)

pub rising-others : (who : Who) (rs news : List Record) (clock : ℕ) → news ≡ others who rs → Rising 0 rs clock → Rising 0 news clock
unfolding others
rising-others who rs news clock is up = subst (λ (l : List Record). Rising 0 l clock) (sym is) (rising-filter (λ r. not (is_by who r.1)) 0 rs clock up)
