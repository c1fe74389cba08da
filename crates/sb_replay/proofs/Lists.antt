-- Lists that go side by side: made one element at a time, and joined.
use Rattle.std.proofs.Common.{◌≡◌, ℕ, ◌+◌, List, [], ◌∷◌, ◌++◌, length, refl, sym, ap, ◌∙◌, subst, append_assoc, append-nil}
use Rattle.std.specs.List.{AllByRecursion, AllZip}
use Rattle.std.proofs.lemmas.List.{length_push}
use Rattle.sb_replay.specs.Lists.{AllCut, AllFrom}

-- ---- made one element at a time

module _ {A B : Type 0} (R : ℕ → A → B → Type 0) where
  -- what is made so far goes with the first of all, whatever will go with those that are left
  abbrev pub Fills : List A → List A → List B → Type 0
  Fills all left made = (ys : List B) → AllFrom R (length made) left ys → AllFrom R 0 all (made ++ ys)

  pub fills_on : (all left rest : List A) (x : A) (made made' : List B) (y : B)
      → left ≡ x ∷ rest → made' ≡ made ++ y ∷ [] → R (length made) x y → Fills all left made → Fills all rest made'
  fills_on all left rest x made made' y split more here fills = λ ys h.
      let long : length made' ≡ length made + 1 = ap length more ∙ length_push made y in
      let behind : AllFrom R (length made + 1) rest ys = subst (λ (k : ℕ). AllFrom R k rest ys) long h in
      let own : AllFrom R (length made) left (y ∷ ys) = subst (λ (l : List A). AllFrom R (length made) l (y ∷ ys)) (sym split) (here, behind) in
      subst (AllFrom R 0 all) (sym (append_assoc made (y ∷ []) ys) ∙ ap (λ (l : List B). l ++ ys) (sym more)) (fills (y ∷ ys) own)

  pub fills_end : (all left : List A) (made : List B) → left ≡ [] → Fills all left made → AllFrom R 0 all made
  fills_end all left made none fills =
      subst (AllFrom R 0 all) (append-nil made) (fills [] (subst (λ (l : List A). AllFrom R (length made) l []) (sym none) tt))

module _ {A B C : Type 0} (R : A → B → List C → Type 0) where
  abbrev pub Cuts : List A → List A → List B → List C → Type 0
  Cuts all left made cut = (ys : List B) (zs : List C) → AllCut R left ys zs → AllCut R all (made ++ ys) (cut ++ zs)

  pub cuts_on : (all left rest : List A) (x : A) (made made' : List B) (y : B) (cut cut' own : List C)
      → left ≡ x ∷ rest → made' ≡ made ++ y ∷ [] → cut' ≡ cut ++ own → R x y own → Cuts all left made cut → Cuts all rest made' cut'
  cuts_on all left rest x made made' y cut cut' own split more further here cuts = λ ys zs h.
      let first : AllCut R left (y ∷ ys) (own ++ zs) = subst (λ (l : List A). AllCut R l (y ∷ ys) (own ++ zs)) (sym split) (own, zs, refl, here, h) in
      let made_is : made ++ y ∷ ys ≡ made' ++ ys = sym (append_assoc made (y ∷ []) ys) ∙ ap (λ (l : List B). l ++ ys) (sym more) in
      let cut_is : cut ++ (own ++ zs) ≡ cut' ++ zs = sym (append_assoc cut own zs) ∙ ap (λ (l : List C). l ++ zs) (sym further) in
      subst (λ (l : List B). AllCut R all l (cut' ++ zs)) made_is (subst (AllCut R all (made ++ y ∷ ys)) cut_is (cuts (y ∷ ys) (own ++ zs) first))

  pub cuts_end : (all left : List A) (made : List B) (cut : List C) → left ≡ [] → Cuts all left made cut → AllCut R all made cut
  cuts_end all left made cut none cuts =
      let whole : AllCut R all (made ++ []) (cut ++ []) = cuts [] [] (subst (λ (l : List A). AllCut R l [] []) (sym none) refl) in
      subst (λ (l : List B). AllCut R all l cut) (append-nil made) (subst (AllCut R all (made ++ [])) (append-nil cut) whole)

-- ---- joined

pub then_zip : {A B C : Type 0} (P : A → Type 0) (R : ℕ → A → B → Type 0) (S : B → C → Type 0) (Q : ℕ → A → C → Type 0)
    → ((k : ℕ) (x : A) (y : B) (z : C) → P x → R k x y → S y z → Q k x z)
    → (k : ℕ) (xs : List A) (ys : List B) (zs : List C) → AllByRecursion P xs → AllFrom R k xs ys → AllZip S ys zs → AllFrom Q k xs zs
then_zip P R S Q step k [] [] [] p h z = tt
then_zip P R S Q step k [] [] (c ∷ cs) p h z = absurd z
then_zip P R S Q step k [] (b ∷ bs) cs p h z = absurd h
then_zip P R S Q step k (a ∷ l) [] cs p h z = absurd h
then_zip P R S Q step k (a ∷ l) (b ∷ bs) [] p h z = absurd z
then_zip P R S Q step k (a ∷ l) (b ∷ bs) (c ∷ cs) p h z =
    (step k a b c p.0 h.0 z.0, then_zip P R S Q step (k + 1) l bs cs p.1 h.1 z.1)

pub zip_then : {A : Type 0} (R S Q : A → A → Type 0) → ((x y z : A) → R x y → S y z → Q x z)
    → (xs ys zs : List A) → AllZip R xs ys → AllZip S ys zs → AllZip Q xs zs
zip_then R S Q step [] [] [] r s = tt
zip_then R S Q step [] [] (z ∷ zs) r s = absurd s
zip_then R S Q step [] (y ∷ ys) zs r s = absurd r
zip_then R S Q step (x ∷ xs) [] zs r s = absurd r
zip_then R S Q step (x ∷ xs) (y ∷ ys) [] r s = absurd s
zip_then R S Q step (x ∷ xs) (y ∷ ys) (z ∷ zs) r s = (step x y z r.0 s.0, zip_then R S Q step xs ys zs r.1 s.1)

pub zip_same : {A : Type 0} (R : A → A → Type 0) → ((x : A) → R x x) → (xs : List A) → AllZip R xs xs
zip_same R same [] = tt
zip_same R same (x ∷ xs) = (same x, zip_same R same xs)
