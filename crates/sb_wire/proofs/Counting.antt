-- Counts of responses, one after another.
use Rattle.std.proofs.Common.{◌≡◌, ◌∙◌, ◌+◌, ◌<◌, ◌==◌, sym, ap, subst, refl, ℕ, Bool, true, false, cond, List, [], ◌∷◌, ◌++◌, Option, length, get_or, set, append_assoc, append-nil, length-append, get_or-set_same, get_or-set_other, eq-eqb, arith}
use Rattle.std.proofs.lemmas.Bool.{eqb-true}
use Rattle.std.specs.Prelude.{filter, flat_map, slice_index}
use Rattle.std.specs.Io.Iter.{u64_saturate}
use Rattle.std.proofs.lemmas.List.Elements.{filter-append}
use Rattle.std.proofs.lemmas.List.Concat.{flat_map-append}
use Rattle.sb_wire.specs.Lines.{Piece}
use Rattle.sb_wire.specs.Counts.{Response, response_text, refusal_of, is_step, is_number, count_of, one_more, IsSummary, Adds, Counts}
use Rattle.sb_wire.specs.declared.summary.Summary.{Summary}

-- one more of those that pass a test
filter-one : {X : Type 0} (p : X → Bool) (xs : List X) (x : X) → length (filter p (xs ++ x ∷ [])) ≡ length (filter p xs) + cond (p x) 1 0
filter-one p xs x = ap length (filter-append p xs (x ∷ [])) ∙ length-append (filter p xs) (filter p (x ∷ [])) ∙ ap (λ k. length (filter p xs) + k) (by_test (p x))
  where
    by_test : (b : Bool) → length (cond b (x ∷ []) []) ≡ cond b 1 0
    by_test true = refl
    by_test false = refl

saturate-more : (b : Bool) (n : ℕ) → one_more b (u64_saturate n) ≡ u64_saturate (n + cond b 1 0)
saturate-more true n = omega arith
saturate-more false n = omega arith

count-more : (test : Response → Bool) (before : List Response) (r : Response) (old new : ℕ) → old ≡ count_of test before → new ≡ one_more (test r) old → new ≡ count_of test (before ++ r ∷ [])
count-more test before r old new is step =
    step ∙ ap (one_more (test r)) is ∙ saturate-more (test r) (length (filter test before)) ∙ ap u64_saturate (sym (filter-one test before r))

-- one response, by its refusal and whether it is a step
pub adds-one : (old new : Summary) (r : Response) (refusal : Option ℕ) (stepped : Bool) → refusal_of r ≡ refusal → is_step r ≡ stepped → new.lines ≡ one_more true old.lines → new.steps ≡ one_more stepped old.steps
    → ((n : ℕ) → n < 256 → slice_index new.refused n ≡ one_more (is_number n refusal) (slice_index old.refused n)) → Adds old (r ∷ []) new
adds-one old new r refusal stepped same one lines steps refused = record {
  behind = λ before is. record {
    lines = count-more (λ x. true) before r old.lines new.lines is.lines lines;
    steps = count-more is_step before r old.steps new.steps is.steps (subst (λ b. new.steps ≡ one_more b old.steps) (sym one) steps);
    refused = λ n below. count-more (λ x. is_number n (refusal_of x)) before r (slice_index old.refused n) (slice_index new.refused n) (is.refused n below)
        (subst (λ x. slice_index new.refused n ≡ one_more (is_number n x) (slice_index old.refused n)) (sym same) (refused n below));
  };
}

-- the count of one number goes up
pub number-more : (counts : List ℕ) (m v : ℕ) → m < length counts → v ≡ u64_saturate (get_or counts m 0 + 1) → (n : ℕ) → get_or (set counts m v) n 0 ≡ one_more (m == n) (get_or counts n 0)
number-more counts m v within step n = by_test (m == n) refl
  where
    by_test : (b : Bool) → (m == n) ≡ b → get_or (set counts m v) n 0 ≡ one_more b (get_or counts n 0)
    by_test true same =
        let is = eqb-true m n same in
        ap (λ (k : ℕ). get_or (set counts m v) k 0) (sym is) ∙ get_or-set_same counts m v 0 within ∙ step ∙ ap (λ (k : ℕ). u64_saturate (get_or counts k 0 + 1)) is
    by_test false other = get_or-set_other counts m n v 0 (λ is. let same : (m == n) ≡ true = eq-eqb m n (sym is) in cc)

-- none
pub counts-none : (s : Summary) → Counts [] [] s s
counts-none s = record {
  responses = [];
  each = refl;
  whole = refl;
  adds = record { behind = λ before is. subst (λ l. IsSummary l s) (sym (append-nil before)) is };
}

-- one
pub counts-one : (p : Piece) (r : Response) (old new : Summary) → Adds old (r ∷ []) new → Counts (p ∷ []) (response_text r) old new
counts-one p r old new adds = record { responses = r ∷ []; each = refl; whole = sym (append-nil (response_text r)); adds = adds }

-- some and then others
pub counts-then : (ps qs : List Piece) (text more : List ℕ) (a b c : Summary) → Counts ps text a b → Counts qs more b c → Counts (ps ++ qs) (text ++ more) a c
counts-then ps qs text more a b c one two = record {
  responses = one.responses ++ two.responses;
  each = length-append one.responses two.responses ∙ ap (λ n. n + length two.responses) one.each ∙ ap (λ n. length ps + n) two.each ∙ sym (length-append ps qs);
  whole = ap (λ t. t ++ more) one.whole ∙ ap (λ t. flat_map response_text one.responses ++ t) two.whole ∙ sym (flat_map-append response_text one.responses two.responses);
  adds = record { behind = λ before is. subst (λ l. IsSummary l c) (append_assoc before one.responses two.responses) (two.adds.behind (before ++ one.responses) (one.adds.behind before is)) };
}
