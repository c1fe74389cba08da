-- Reserved words, looked up among those of their length.
use Rattle.std.proofs.Common.{◌≡◌, ◌≤◌, ◌<◌, ◌+◌, ◌==◌, ℕ, zero, suc, Bool, true, false, cond, List, [], ◌∷◌, length, map, take, drop, ◌-◌, get_or, refl, ap, sym, ◌∙◌, arith, eq-eqb, nat_le, ◌&&◌}
use Rattle.std.specs.Str.{bytes_eq}
use Rattle.std.proofs.lemmas.Bool.{leb-true, and_parts}
use Rattle.std.specs.List.{take-map}
use Rattle.sb_syntax.specs.declared.kind.TokenKind.{TokenKind}
use Rattle.sb_syntax.specs.declared.kind.TokenKind.TheVariants as k
use Rattle.sb_syntax.specs.declared.kind.TheConstants.{WORDS, STARTS}
use Rattle.sb_syntax.specs.Lex.{lookup, reserved_words, word_kind}
use Rattle.sb_syntax.proofs.Bytes.{same_bytes}

abbrev Words : Type 0
Words = List (List ℕ × TokenKind)

abbrev same_length : ℕ → Words → Words
same_length n [] = []
same_length n (w ∷ ws) = cond (length w.0 == n) (w ∷ same_length n ws) (same_length n ws)

other_bytes : (a b : List ℕ) → (a ≡ b → ⊥) → bytes_eq a b ≡ false
other_bytes a b other = go (bytes_eq a b) refl
  where
    go : (t : Bool) → bytes_eq a b ≡ t → t ≡ false
    go true e = absurd (other (same_bytes a b e))
    go false e = refl

by_length : (ws : Words) (word : List ℕ) → lookup (same_length (length word) ws) word ≡ lookup ws word
by_length [] word = refl
by_length (w ∷ ws) word = go (length w.0 == length word) refl (by_length ws word)
  where
    go : (b : Bool) → (length w.0 == length word) ≡ b → lookup (same_length (length word) ws) word ≡ lookup ws word
        → lookup (cond b (w ∷ same_length (length word) ws) (same_length (length word) ws)) word ≡ cond (bytes_eq w.0 word) w.1 (lookup ws word)
    go true is h = ap (λ k. cond (bytes_eq w.0 word) w.1 k) h
    go false is h = h ∙ sym (ap (λ b. cond b w.1 (lookup ws word)) (other_bytes w.0 word (λ e. clash (ap length e))))
      where
        clash : length w.0 ≡ length word → ⊥
        clash e = let f : true ≡ false = sym (eq-eqb (length w.0) (length word) e) ∙ is in cc

abbrev all_short : Words → Bool
all_short [] = true
all_short (w ∷ ws) = nat_le (length w.0) 10 && all_short ws

too_long : (ws : Words) (word : List ℕ) → all_short ws ≡ true → 10 < length word → lookup ws word ≡ k.Name
too_long [] word e lt = refl
too_long (w ∷ ws) word e lt =
    let p = and_parts (nat_le (length w.0) 10) (all_short ws) e in
    let l = leb-true (length w.0) 10 p.0 in
    ap (λ b. cond b w.1 (lookup ws word)) (other_bytes w.0 word (λ f. longer f l)) ∙ too_long ws word p.1 lt
  where
    longer : w.0 ≡ word → length w.0 ≤ 10 → ⊥
    longer f l = let m = ap (length {A = ℕ}) f in omega arith

pub longer_word : (word : List ℕ) → 10 < length word → k.Name ≡ word_kind word
unfolding word_kind
longer_word word lt = sym (too_long reserved_words word refl lt)

-- those of one length stand together
group : (n : ℕ) → n ≤ 10 → take (get_or STARTS (n + 1) 0 - get_or STARTS n 0) (drop (get_or STARTS n 0) reserved_words) ≡ same_length n reserved_words
group zero le = refl
group (suc zero) le = refl
group (suc (suc zero)) le = refl
group (suc (suc (suc zero))) le = refl
group (suc (suc (suc (suc zero)))) le = refl
group (suc (suc (suc (suc (suc zero))))) le = refl
group (suc (suc (suc (suc (suc (suc zero)))))) le = refl
group (suc (suc (suc (suc (suc (suc (suc zero))))))) le = refl
group (suc (suc (suc (suc (suc (suc (suc (suc zero)))))))) le = refl
group (suc (suc (suc (suc (suc (suc (suc (suc (suc zero))))))))) le = refl
group (suc (suc (suc (suc (suc (suc (suc (suc (suc (suc zero)))))))))) le = refl
group (suc (suc (suc (suc (suc (suc (suc (suc (suc (suc (suc n))))))))))) le = absurd (omega arith)

map-drop : {A B : Type 0} (f : A → B) (n : ℕ) (xs : List A) → map f (drop n xs) ≡ drop n (map f xs)
map-drop f zero xs = refl
map-drop f (suc n) [] = refl
map-drop f (suc n) (x ∷ xs) = map-drop f n xs

-- the table has the reserved words
table_is : map (λ w. (w.0.now, w.1)) WORDS ≡ reserved_words
table_is = refl

-- the table as the code has it is seen as the words
pub grouped_word : {A : Type 0} (f : A → List ℕ × TokenKind) (table : List A) (word : List ℕ) (found : TokenKind)
    → found ≡ lookup (map f (take (get_or STARTS (length word + 1) 0 - get_or STARTS (length word) 0) (drop (get_or STARTS (length word) 0) table))) word
    → map f table ≡ map (λ w. (w.0.now, w.1)) WORDS → length word ≤ 10 → found ≡ word_kind word
unfolding word_kind
grouped_word f table word found is same le =
    let n = get_or STARTS (length word + 1) 0 - get_or STARTS (length word) 0 in
    let a = get_or STARTS (length word) 0 in
    is ∙ ap (λ ws. lookup ws word) (sym (take-map f n (drop a table)) ∙ ap (take n) (map-drop f a table) ∙ ap (λ ws. take n (drop a ws)) (same ∙ table_is) ∙ group (length word) le) ∙ by_length reserved_words word
