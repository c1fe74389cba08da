-- The first byte of a kind cuts a text.
use Rattle.std.proofs.Common.{◌≡◌, ℕ, ◌<◌, List, length, get_or, arith}
use Rattle.std.specs.List.{position_or_len}
use Rattle.std.specs.Prelude.{Some, None}
use Rattle.std.proofs.lemmas.Bool.{false_from_ne_true}
use Rattle.std.proofs.lemmas.List.Sums.{position_or_len_is}
use Rattle.memchr.specs.Find.{is_byte, IsFirstByte}

pub first_at : (b : ℕ) (text : List ℕ) (k : ℕ) → IsFirstByte (is_byte b) text (Some k) → position_or_len (is_byte b) text ≡ k
first_at b text k is =
    let high : k < length text = is.0.high in
    position_or_len_is (is_byte b) text k 0 (omega arith)
    (λ i h. false_from_ne_true (is_byte b (get_or text i 0)) (λ e. is.0.before i (omega arith) h e)) (λ _. is.1)

pub nowhere : (b : ℕ) (text : List ℕ) → IsFirstByte (is_byte b) text None → position_or_len (is_byte b) text ≡ length text
nowhere b text is =
    position_or_len_is (is_byte b) text (length text) 0 (omega arith)
    (λ i h. false_from_ne_true (is_byte b (get_or text i 0)) (λ e. is i (omega arith) h e)) (λ h. absurd (omega arith))
