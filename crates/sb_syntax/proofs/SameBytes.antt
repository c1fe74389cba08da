-- Bytes compared one by one.
use Rattle.std.proofs.Common.{◌≡◌, ◌∙◌, ℕ, true, List, length, take, get_or, codes, sym, arith}
use Rattle.std.specs.Str.{bytes_eq}
use Rattle.std.proofs.lemmas.List.{take_all}
use Rattle.std.proofs.lemmas.Slice.Eq.{bytes_eq-Decides, text_from_reads}

-- those of one length with the same bytes are one
pub same_whole : (a b : List ℕ) → length a ≡ length b → take (length a) a ≡ take (length a) b → true ≡ bytes_eq a b
same_whole a b long same =
    let whole : a ≡ b = sym (take_all (length a) a (omega arith)) ∙ same ∙ take_all (length a) b (omega arith) in
    sym ((bytes_eq-Decides a b).1 whole)

pub begin_by_bytes : (s : List ℕ) → length s ≡ 5 → get_or s 0 0 ≡ 98 → get_or s 1 0 ≡ 101 → get_or s 2 0 ≡ 103 → get_or s 3 0 ≡ 105 → get_or s 4 0 ≡ 110 → s ≡ codes "begin"
begin_by_bytes s long a b c d e = text_from_reads s (codes "begin") long (a, (b, (c, (d, (e, tt)))))

pub commit_by_bytes : (s : List ℕ) → length s ≡ 6 → get_or s 0 0 ≡ 99 → get_or s 1 0 ≡ 111 → get_or s 2 0 ≡ 109 → get_or s 3 0 ≡ 109 → get_or s 4 0 ≡ 105 → get_or s 5 0 ≡ 116 → s ≡ codes "commit"
commit_by_bytes s long a b c d e f = text_from_reads s (codes "commit") long (a, (b, (c, (d, (e, (f, tt))))))
