-- One step of looking for the end of a quote or a comment.
use Rattle.std.proofs.Common.{◌≡◌, ◌≤◌, ◌<◌, ◌+◌, ◌-◌, ℕ, true, false, List, [], ◌∷◌, length, take, drop, get_or, Option, Some, None, refl, ap, sym, ◌∙◌, eq-eqb, arith}
use Rattle.std.proofs.lemmas.Bool.{ne_eqb}
use Rattle.std.proofs.lemmas.List.{take_rest}
use Rattle.sb_postgres.specs.Pieces.{closes_comment, opens_comment}
use Rattle.sb_postgres.specs.Scan.{closing, comment_end}

-- what a pattern binds behind the first
abbrev pub tail : List ℕ → List ℕ
tail zs = take (length zs - 1) (drop 1 zs)

pub tail-is : (zs : List ℕ) → tail zs ≡ drop 1 zs
tail-is zs = take_rest zs 1

tail-cons : (b : ℕ) (bs : List ℕ) → tail (b ∷ bs) ≡ bs
tail-cons b bs = take_rest (b ∷ bs) 1

two-step : (quote n b c : ℕ) (bs : List ℕ) (whole : Option ℕ) → b ≡ quote → c ≡ quote → closing quote n (b ∷ c ∷ bs) ≡ whole → closing quote (n + 2) bs ≡ whole
two-step quote n b c bs whole e f h =
    let k : closing quote n (b ∷ c ∷ bs) ≡ closing quote (n + 2) bs = rw (eq-eqb b quote e, eq-eqb c quote f) refl in
    sym k ∙ h

one-step : (quote n b : ℕ) (bs : List ℕ) (whole : Option ℕ) → (b ≡ quote → ⊥) → closing quote n (b ∷ bs) ≡ whole → closing quote (n + 1) bs ≡ whole
one-step quote n b [] whole e h =
    let k : closing quote n (b ∷ []) ≡ None = rw (ne_eqb b quote e) refl in
    sym k ∙ h
one-step quote n b (c ∷ bs) whole e h =
    let k : closing quote n (b ∷ c ∷ bs) ≡ closing quote (n + 1) (c ∷ bs) = rw (ne_eqb b quote e) refl in
    sym k ∙ h

-- a doubled quote, and another byte
pub passes_two : (quote n : ℕ) (zs : List ℕ) (whole : Option ℕ) → 1 ≤ length zs → 1 ≤ length (tail zs) → get_or zs 0 0 ≡ quote → get_or (tail zs) 0 0 ≡ quote
    → closing quote n zs ≡ whole → closing quote (n + 2) (tail (tail zs)) ≡ whole
passes_two quote n [] whole l m e f h = absurd (omega arith)
passes_two quote n (b ∷ []) whole l m e f h = absurd (omega arith)
passes_two quote n (b ∷ c ∷ bs) whole l m e f h =
    let g : c ≡ quote = ap (λ (t : List ℕ). get_or t 0 0) (sym (tail-cons b (c ∷ bs))) ∙ f in
    rw (tail-cons b (c ∷ bs), tail-cons c bs) (two-step quote n b c bs whole e g h)

pub passes_one : (quote n : ℕ) (zs : List ℕ) (whole : Option ℕ) → 1 ≤ length zs → (get_or zs 0 0 ≡ quote → ⊥) → closing quote n zs ≡ whole → closing quote (n + 1) (tail zs) ≡ whole
passes_one quote n [] whole l e h = absurd (omega arith)
passes_one quote n (b ∷ bs) whole l e h = rw (tail-cons b bs) (one-step quote n b bs whole e h)

-- two bytes that close a comment, two that open one, another byte
abbrev pub behind : ℕ → List ℕ → List ℕ
behind n zs = take (length zs - n) (drop n zs)

behind-two : (b c : ℕ) (bs : List ℕ) → behind 2 (b ∷ c ∷ bs) ≡ bs
behind-two b c bs = take_rest (b ∷ c ∷ bs) 2

pub passes_close : (depth n : ℕ) (zs : List ℕ) (whole : Option ℕ) → 2 ≤ length zs → closes_comment zs ≡ true → (depth ≡ 0 → ⊥)
    → comment_end depth n zs ≡ whole → comment_end (depth - 1) (n + 2) (behind 2 zs) ≡ whole
passes_close depth n [] whole l e d h = absurd (omega arith)
passes_close depth n (b ∷ []) whole l e d h = absurd (omega arith)
passes_close depth n (b ∷ c ∷ bs) whole l e d h =
    let k : comment_end depth n (b ∷ c ∷ bs) ≡ comment_end (depth - 1) (n + 2) bs = rw (e, ne_eqb depth 0 d) refl in
    rw (behind-two b c bs) (sym k ∙ h)

pub passes_open : (depth n : ℕ) (zs : List ℕ) (whole : Option ℕ) → 2 ≤ length zs → closes_comment zs ≡ false → opens_comment zs ≡ true
    → comment_end depth n zs ≡ whole → comment_end (depth + 1) (n + 2) (behind 2 zs) ≡ whole
passes_open depth n [] whole l e f h = absurd (omega arith)
passes_open depth n (b ∷ []) whole l e f h = absurd (omega arith)
passes_open depth n (b ∷ c ∷ bs) whole l e f h =
    let k : comment_end depth n (b ∷ c ∷ bs) ≡ comment_end (depth + 1) (n + 2) bs = rw (e, f) refl in
    rw (behind-two b c bs) (sym k ∙ h)

pub passes_other : (depth n : ℕ) (zs : List ℕ) (whole : Option ℕ) → 2 ≤ length zs → closes_comment zs ≡ false → opens_comment zs ≡ false
    → comment_end depth n zs ≡ whole → comment_end depth (n + 1) (behind 1 zs) ≡ whole
passes_other depth n [] whole l e f h = absurd (omega arith)
passes_other depth n (b ∷ []) whole l e f h = absurd (omega arith)
passes_other depth n (b ∷ c ∷ bs) whole l e f h =
    let k : comment_end depth n (b ∷ c ∷ bs) ≡ comment_end depth (n + 1) (c ∷ bs) = rw (e, f) refl in
    rw (tail-cons b (c ∷ bs)) (sym k ∙ h)

pub closes_now : (n : ℕ) (zs : List ℕ) → 2 ≤ length zs → closes_comment zs ≡ true → comment_end 0 n zs ≡ Some (n + 2)
closes_now n [] l e = absurd (omega arith)
closes_now n (b ∷ []) l e = absurd (omega arith)
closes_now n (b ∷ c ∷ bs) l e = rw e refl

pub stays_open : (depth n : ℕ) (zs : List ℕ) → length zs < 2 → comment_end depth n zs ≡ None
stays_open depth n [] l = refl
stays_open depth n (b ∷ []) l = refl
stays_open depth n (b ∷ c ∷ bs) l = absurd (omega arith)
