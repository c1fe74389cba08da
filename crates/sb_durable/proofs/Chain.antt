-- One digest at the end binds a whole segment.
use Rattle.std.proofs.Common.{◌≡◌, ◌≢◌, ◌⊎◌, ℕ, ◌==◌, Bool, true, false, List, [], ◌∷◌, ◌++◌, refl, sym, ap, ◌∙◌, inl, inr, arith, true≢false}
use Rattle.std.proofs.lemmas.Bool.{eqb-true, eqb-false}
use Rattle.std.proofs.lemmas.List.{append-nil}
use Rattle.std.proofs.lemmas.Slice.Eq.{bytes_eq-Decides}
use Rattle.sqlite_disk.specs.Digest.{digest}
use Rattle.sb_durable.specs.SegmentBlocks.{end_digest}
use Rattle.sb_durable.specs.Head.{head_text, head_digest}
use Rattle.sb_durable.specs.Chain.{HasCollision, Leads, OneEndOneSegment, WhatIsReadIsBound}
use Rattle.sb_durable.specs.declared.segment.place.Place.{Place}
use Rattle.sb_durable.proofs.SegmentReading.{one_head}

pub digest_some : (key : ℕ) (text : List ℕ) → digest key text ≢ 0
unfolding digest
digest_some key text none = omega arith

-- the digest of the newest content, under that of the one before; the newest stands first
abbrev back_end : ℕ → List (List ℕ) → ℕ
back_end start [] = start
back_end start (content ∷ older) = digest (back_end start older) content

-- the same contents, the newest first
abbrev turned : List (List ℕ) → List (List ℕ) → List (List ℕ)
turned [] done = done
turned (content ∷ contents) done = turned contents (content ∷ done)

twice : (contents done out : List (List ℕ)) → turned (turned contents done) out ≡ turned done (contents ++ out)
twice [] done out = refl
twice (content ∷ contents) done out = twice contents (content ∷ done) out

turned_same : (contents others : List (List ℕ)) → turned contents [] ≡ turned others [] → contents ≡ others
turned_same contents others same =
    sym (twice contents [] [] ∙ append-nil contents) ∙ ap (λ (l : List (List ℕ)). turned l []) same ∙ (twice others [] [] ∙ append-nil others)

end_turned : (start : ℕ) (contents done : List (List ℕ)) → end_digest (back_end start done) contents ≡ back_end start (turned contents done)
end_turned start [] done = refl
end_turned start (content ∷ contents) done = end_turned start contents (content ∷ done)

back_some : (text : List ℕ) (contents : List (List ℕ)) → back_end (digest 0 text) contents ≢ 0
back_some text [] = digest_some 0 text
back_some text (content ∷ contents) = digest_some (back_end (digest 0 text) contents) content

-- by whether the text is the same
texts : (key : ℕ) (a b : List ℕ) → digest key a ≡ digest key b → (r : Bool) → (r ≡ true → a ≡ b) × (a ≡ b → r ≡ true) → (a ≡ b) ⊎ HasCollision
texts key a b same true decides = inl (decides.0 refl)
texts key a b same false decides =
    inr (record { one = (key, a); other = (key, b); differ = λ e. true≢false (sym (decides.1 (ap (λ (p : ℕ × List ℕ). p.1) e))); collide = same })

joined : (key : ℕ) (t u a b : List ℕ) (olds news : List (List ℕ)) → digest key a ≡ digest key b → ((t ≡ u) × (olds ≡ news)) ⊎ HasCollision → ((t ≡ u) × ((a ∷ olds) ≡ (b ∷ news))) ⊎ HasCollision
joined key t u a b olds news same (inr c) = inr c
joined key t u a b olds news same (inl rest) = elim (texts key a b same _ (bytes_eq-Decides a b)) [
  | inl e ↦ inl (rest.0, ap (λ (x : List ℕ). x ∷ olds) e ∙ ap (λ (xs : List (List ℕ)). b ∷ xs) rest.1)
  | inr c ↦ inr c
]

by_ends : (t u a b : List ℕ) (olds news : List (List ℕ)) (k l : ℕ) → digest k a ≡ digest l b → (k ≡ l → ((t ≡ u) × (olds ≡ news)) ⊎ HasCollision) → (r : Bool) → (k == l) ≡ r → ((t ≡ u) × ((a ∷ olds) ≡ (b ∷ news))) ⊎ HasCollision
by_ends t u a b olds news k l same rest false other_ =
    inr (record { one = (k, a); other = (l, b); differ = λ e. eqb-false k l other_ (ap (λ (p : ℕ × List ℕ). p.0) e); collide = same })
by_ends t u a b olds news k l same rest true is =
    let keys = eqb-true k l is in
    joined l t u a b olds news (ap (λ (n : ℕ). digest n a) (sym keys) ∙ same) (rest keys)

one_end : (t u : List ℕ) (olds news : List (List ℕ)) → back_end (digest 0 t) olds ≡ back_end (digest 0 u) news → ((t ≡ u) × (olds ≡ news)) ⊎ HasCollision
one_end t u [] [] same = elim (texts 0 t u same _ (bytes_eq-Decides t u)) [ inl e ↦ inl (e, refl) | inr c ↦ inr c ]
one_end t u [] (b ∷ news) same =
    inr (record { one = (0, t); other = (back_end (digest 0 u) news, b); differ = λ e. back_some u news (sym (ap (λ (p : ℕ × List ℕ). p.0) e)); collide = same })
one_end t u (a ∷ olds) [] same =
    inr (record { one = (back_end (digest 0 t) olds, a); other = (0, u); differ = λ e. back_some t olds (ap (λ (p : ℕ × List ℕ). p.0) e); collide = same })
one_end t u (a ∷ olds) (b ∷ news) same =
    by_ends t u a b olds news (back_end (digest 0 t) olds) (back_end (digest 0 u) news) same (λ keys. one_end t u olds news keys) (back_end (digest 0 t) olds == back_end (digest 0 u) news) refl

pub one_end_one_segment : OneEndOneSegment
one_end_one_segment head other contents others fits other_fits same =
    let turns = sym (end_turned (head_digest head) contents []) ∙ same ∙ end_turned (head_digest other) others [] in
    elim (one_end (head_text head) (head_text other) (turned contents []) (turned others []) turns) [
      | inl both ↦ inl ((one_head head other [] [] fits other_fits (ap (λ (l : List ℕ). l ++ []) both.0)).0, turned_same contents others both.1)
      | inr c ↦ inr c
    ]

leads_end : (contents : List (List ℕ)) (first end : Place) → Leads first contents end → end.chain ≡ end_digest first.chain contents
leads_end [] first end leads = sym leads
leads_end (content ∷ contents) first end leads = leads_end contents leads.0 end leads.2 ∙ ap (λ (n : ℕ). end_digest n contents) leads.1.chain

pub what_is_read_is_bound : WhatIsReadIsBound
what_is_read_is_bound head contents first end own leads = leads_end contents first end leads ∙ ap (λ (n : ℕ). end_digest n contents) own
