-- Promise: what a client is told that a statement did.
use Rattle.std.specs.Prelude.{ℕ, ◌-◌, ◌&&◌, nat_le, if◌then◌else◌, List, [], ◌∷◌, ◌++◌, map, take, drop, codes, decimal}
use Rattle.std.specs.List.{prefix_len}
use Rattle.std.specs.Str.{bytes_eq}
use Rattle.sb_postgres.specs.Bytes.{is_word}
use Rattle.sb_postgres.specs.Kinds.{behind_space}
use Rattle.sb_postgres.specs.declared.query.kind.StatementKind.{StatementKind}
use Rattle.sb_postgres.specs.declared.query.kind.StatementKind.TheVariants as k
use Rattle.sb_postgres.specs.declared.told.tag.Effect.{Effect}
use Rattle.sb_postgres.specs.declared.told.tag.Effect.TheVariants.{Done, Changed, Found}

abbrev pub capital : ℕ → ℕ
capital b = if nat_le 97 b && nat_le b 122 then b - 32 else b

abbrev pub first_word : List ℕ → List ℕ
first_word line = take (prefix_len is_word line) line

abbrev pub behind_first : List ℕ → List ℕ
behind_first line = behind_space (drop (prefix_len is_word line) line)

abbrev pub capitals : List ℕ → List ℕ
capitals word = map capital word

abbrev pub counted : ℕ → List ℕ
counted n = 32 ∷ decimal n

-- as `CREATE TABLE`
abbrev pub two_words : List ℕ → List ℕ
two_words line = capitals (first_word line) ++ 32 ∷ capitals (first_word (behind_first line))

-- as `UPDATE 3`; an insert has a 0 in front of the number
abbrev pub changed : List ℕ → ℕ → List ℕ
changed line n = capitals (first_word line) ++ (if bytes_eq (first_word line) (codes "insert") then codes " 0" else []) ++ counted n

abbrev pub done : StatementKind → List ℕ → List ℕ
done k.Begin line = codes "BEGIN"
done k.Commit line = codes "COMMIT"
done k.Rollback line = codes "ROLLBACK"
done k.Definition line = two_words line
done k.Process line = two_words line
done kind line = capitals (first_word line)

abbrev pub tag_of : StatementKind → List ℕ → Effect → List ℕ
tag_of kind line (Changed n) = changed line n
tag_of kind line (Found n) = codes "SELECT" ++ counted n
tag_of kind line Done = done kind line
