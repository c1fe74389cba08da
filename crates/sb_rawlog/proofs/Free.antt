-- The free places of a log, as changes enter and leave.
use Rattle.std.proofs.lemmas.Bool.{cases_lt, cases_eq}
use Rattle.std.proofs.Common.{◌≡◌, ◌≢◌, ℕ, zero, suc, ◌+◌, ◌<◌, ◌≤◌, ◌⊎◌, inl, inr, List, [], ◌∷◌, ◌++◌, length, get_or, set, take, replicate, Option, Some, None, refl, sym, ap, ◌∙◌, subst, arith, length-set, get_or-set_other, get_or-take, length-take, length-append}
use Rattle.std.proofs.Math.ListN.{get_or-eq_default}
use Rattle.sb_value.specs.declared.change.Change.{Change}
use Rattle.sb_rawlog.specs.declared.node.Node.{Node}
use Rattle.sb_rawlog.specs.Links.{IsNode, Member}
use Rattle.sb_rawlog.specs.Logs.{entry_in}
use Rattle.sb_rawlog.specs.Places.{Claims, GivesBack, Apart, AreFree, HoldSame, Rewinds}

member_front : (q : ℕ) (ps qs : List ℕ) → Member q ps → Member q (ps ++ qs)
member_front q [] qs m = absurd m
member_front q (p ∷ ps) qs m = elim m [ inl e ↦ inl e | inr r ↦ inr (member_front q ps qs r) ]

member_last : (p : ℕ) (ps : List ℕ) → Member p (ps ++ p ∷ [])
member_last p [] = inl refl
member_last p (q ∷ ps) = inr (member_last p ps)

member_either : (q p : ℕ) (ps : List ℕ) → Member q (ps ++ p ∷ []) → Member q ps ⊎ (q ≡ p)
member_either q p [] m = elim m [ inl e ↦ inr e | inr n ↦ absurd n ]
member_either q p (r ∷ ps) m = elim m [ inl e ↦ inl (inl e) | inr n ↦ elim (member_either q p ps n) [ inl a ↦ inl (inr a) | inr e ↦ inr e ] ]

apart_split : (ps : List ℕ) (p : ℕ) → Apart (ps ++ p ∷ []) → Apart ps × (Member p ps → ⊥)
apart_split [] p a = (tt, λ m. m)
apart_split (q ∷ ps) p a = let rest = apart_split ps p a.1 in
    ((λ m. a.0 (member_front q ps (p ∷ []) m), rest.0), λ m. elim m [ inl e ↦ a.0 (subst (λ k. Member k (ps ++ p ∷ [])) e (member_last p ps)) | inr n ↦ rest.1 n ])

apart_joined : (ps : List ℕ) (p : ℕ) → Apart ps → (Member p ps → ⊥) → Apart (ps ++ p ∷ [])
apart_joined [] p a out = (λ m. m, tt)
apart_joined (q ∷ ps) p a out = (λ m. elim (member_either q p ps m) [ inl n ↦ a.0 n | inr e ↦ out (inl (sym e)) ], apart_joined ps p a.1 (λ m. out (inr m)))

-- a place is claimed, and a change put there
pub claimed : (free free' : List ℕ) (used used' place : ℕ) (cs : List (Option (Node Change))) → AreFree free used cs → Claims free used free' used' place → (length free ≡ 0 → used < length cs)
    → (place < length cs) × ((get_or cs place None ≡ None) × ((length free' + used + 1 ≡ length free + used') × ((n : Node Change) → AreFree free' used' (set cs place (Some n)))))
claimed free free' used used' place cs f h more = elim h [
  | inl a ↦
      let last : Member place free = subst (Member place) (sym a.0) (member_last place free') in
      let at = f.given_back place last in
      let cut = apart_split free' place (subst Apart a.0 f.apart) in
      let kept : (n : Node Change) (q : ℕ) → q ≢ place → get_or (set cs place (Some n)) q None ≡ get_or cs q None = λ n q ne. get_or-set_other cs place q (Some n) None ne in (
        omega (arith, at.0, f.within),
        (
          at.1,
          (
            (let l = ap length a.0 in let m = length-append free' (place ∷ []) in omega (arith, a.1)),
            λ n. record {
              within = (let l = length-set cs place (Some n) in omega (arith, f.within, a.1));
              given_back = λ q m.
                  let was = f.given_back q (subst (Member q) (sym a.0) (member_front q free' (place ∷ []) m)) in
                  (omega (arith, was.0, a.1), kept n q (λ e. cut.1 (subst (λ k. Member k free') e m)) ∙ was.1);
              apart = cut.0;
              unused = λ q le. kept n q (λ e. omega (arith, at.0, le, a.1)) ∙ f.unused q (omega (arith, le, a.1));
            },
          ),
        ),
      )
  | inr a ↦
      let lt : used < length cs = more (ap length a.0) in (
        omega (arith, lt, a.2),
        (
          f.unused place (omega (arith, a.2)),
          (
            (let l = ap length a.0 in let m = ap length a.1 in omega (arith, a.3)),
            λ n. record {
              within = (let l = length-set cs place (Some n) in omega (arith, lt, a.3));
              given_back = λ q m. absurd (subst (Member q) a.1 m);
              apart = subst Apart (sym a.1) tt;
              unused = λ q le. get_or-set_other cs place q (Some n) None (λ e. omega (arith, a.2, a.3, le)) ∙ f.unused q (omega (arith, a.3, le));
            },
          ),
        ),
      )
]

none_same : (c d : Option (Node Change)) → entry_in c ≡ entry_in d → d ≡ None → c ≡ None
none_same None d e f = refl
none_same (Some n) None e f = absurd (cc)
none_same (Some n) (Some m) e f = absurd (cc)

-- a place in use is below those that were never used
pub in_use : (free : List ℕ) (used p : ℕ) (cs : List (Option (Node Change))) → AreFree free used cs → IsNode cs p → p < used
in_use free used p cs f is = go (cases_lt p used)
  where
    go : (p < used) ⊎ (used ≤ p) → p < used
    go (inl lt) = lt
    go (inr le) = let a = f.unused p le in let b = is.1 in absurd (cc)

-- a place is given back to the list
released : (free : List ℕ) (used p : ℕ) (cs ds : List (Option (Node Change))) → AreFree free used cs → IsNode cs p → length ds ≡ length cs → get_or ds p None ≡ None
    → ((q : ℕ) → q ≢ p → entry_in (get_or ds q None) ≡ entry_in (get_or cs q None)) → AreFree (free ++ p ∷ []) used ds
released free used p cs ds f is long gone others =
    let lt = in_use free used p cs f is in
    let stays : (q : ℕ) → get_or cs q None ≡ None → get_or ds q None ≡ None = λ q e. elim (cases_eq q p) [
      | inl s ↦ ap (λ k. get_or ds k None) s ∙ gone
      | inr ne ↦ none_same (get_or ds q None) (get_or cs q None) (others q ne) e
    ] in
    record {
      within = omega (arith, f.within, long);
      given_back = λ q m. elim (member_either q p free m) [ inl n ↦ let was = f.given_back q n in (was.0, stays q was.1) | inr e ↦ (omega (arith, lt, e), ap (λ k. get_or ds k None) e ∙ gone) ];
      apart = apart_joined free p f.apart (λ m. let a = (f.given_back p m).1 in let b = is.1 in cc);
      unused = λ q le. stays q (f.unused q le);
    }

-- a place is given back
pub gave_back : (free free' : List ℕ) (used used' p : ℕ) (cs ds : List (Option (Node Change))) → AreFree free used cs → IsNode cs p → length ds ≡ length cs → get_or ds p None ≡ None
    → ((q : ℕ) → q ≢ p → entry_in (get_or ds q None) ≡ entry_in (get_or cs q None)) → GivesBack free used free' used' p → AreFree free' used' ds × (used' + length free + 1 ≡ used + length free')
gave_back free free' used used' p cs ds f is long gone others g = elim g [
  | inl a ↦
      let stays : (q : ℕ) → get_or cs q None ≡ None → get_or ds q None ≡ None = λ q e.
      none_same (get_or ds q None) (get_or cs q None) (others q (λ s. let b = is.1 in let c = ap (λ k. get_or cs k None) s in absurd (cc))) e
      in (
        record {
          within = omega (arith, f.within, long, a.0, a.2);
          given_back = λ q m.
              let was = f.given_back q (subst (Member q) a.1 m) in (
                elim (cases_lt q used') [
                  | inl lt ↦ lt
                  | inr ge ↦ let e : q ≡ p = omega (arith, was.0, ge, a.0, a.2) in let b = is.1 in let c = ap (λ k. get_or cs k None) e in let d = was.1 in absurd (cc)
                ],
                stays q was.1,
              );
          apart = subst Apart (sym a.1) f.apart;
          unused = λ q le. elim (cases_lt q used) [
            | inl lt ↦ let e : q ≡ p = omega (arith, lt, le, a.0, a.2) in ap (λ k. get_or ds k None) e ∙ gone
            | inr ge ↦ stays q (f.unused q ge)
          ];
        },
        (let same = ap length a.1 in omega (arith, same, a.0, a.2)),
      )
  | inr a ↦
      let one = length-append free (p ∷ []) in let more = ap length a.0 in (
        subst (λ (z : List ℕ × ℕ). AreFree z.0 z.1 ds) (λ j. (sym a.0 j, sym a.1 j)) (released free used p cs ds f is long gone others),
        omega (arith, more, one, a.1),
      )
]

-- ---- more places, and fewer

get-nones : (k i : ℕ) → ◌≡◌ {A = Option (Node Change)} (get_or (replicate k None) i None) None
get-nones zero i = refl
get-nones (suc k) zero = refl
get-nones (suc k) (suc i) = get-nones k i

pub get-grown : (cs : List (Option (Node Change))) (k q : ℕ) → get_or (cs ++ replicate k None) q None ≡ get_or cs q None
get-grown [] k q = get-nones k q
get-grown (c ∷ cs) k zero = refl
get-grown (c ∷ cs) k (suc q) = get-grown cs k q

-- places that were never used go
pub get-cut : (cs : List (Option (Node Change))) (used k : ℕ) → used ≤ k → ((p : ℕ) → used ≤ p → get_or cs p None ≡ None) → (q : ℕ) → get_or (take k cs) q None ≡ get_or cs q None
get-cut cs used k le unused q = elim (cases_lt q k) [
  | inl lt ↦ get_or-take k cs q None lt
  | inr ge ↦ get_or-eq_default (take k cs) None (let n = length-take k cs in omega (arith, ge)) ∙ sym (unused q (omega arith))
]

-- more places, or fewer, that hold the same
pub free_kept : (free : List ℕ) (used : ℕ) (cs ds : List (Option (Node Change))) → HoldSame cs ds → used ≤ length ds → AreFree free used cs → AreFree free used ds
free_kept free used cs ds same within f = record {
  within = within;
  given_back = λ q m. let was = f.given_back q m in (was.0, same q ∙ was.1);
  apart = f.apart;
  unused = λ q le. same q ∙ f.unused q le;
}

pub none_in_use : (order : List ℕ) (cs : List (Option (Node Change))) → ((p : ℕ) → IsNode cs p → Member p order) → length order ≡ 0 → (q : ℕ) → get_or cs q None ≡ None
none_in_use [] cs all e q = go (get_or cs q None) refl
  where
    go : (o : Option (Node Change)) → get_or cs q None ≡ o → get_or cs q None ≡ None
    go None is = is
    go (Some n) is = absurd (all q (n, is))
none_in_use (p ∷ ps) cs all e q = absurd (omega (arith, e))

-- where no place is in use, the free ones are those that were never used
pub rewound : (free free' : List ℕ) (used used' : ℕ) (cs : List (Option (Node Change))) → Rewinds free used free' used' → length free ≤ used → (length free ≡ used → (p : ℕ) → get_or cs p None ≡ None) → AreFree free used cs
    → AreFree free' used' cs × ((length free' ≤ used') × (used' + length free ≡ used + length free'))
rewound free free' used used' cs r fewer empty f = elim r [
  | inl a ↦
      let none = ap length a.1 in (
        record {
          within = omega (arith, a.2);
          given_back = λ q m. absurd (subst (Member q) a.1 m);
          apart = subst Apart (sym a.1) tt;
          unused = λ q le. empty a.0 q;
        },
        (omega (arith, none, a.2), omega (arith, none, a.0, a.2)),
      )
  | inr a ↦
      let same = ap length a.0 in (
        subst (λ (z : List ℕ × ℕ). AreFree z.0 z.1 cs) (λ j. (sym a.0 j, sym a.1 j)) f,
        (omega (arith, same, fewer, a.1), omega (arith, same, a.1)),
      )
]
