-- Lists of locks, one after another.
use Rattle.std.proofs.Common.{◌≡◌, ◌∙◌, ℕ, List, [], ◌∷◌, ◌++◌, map, Option, Some, None, refl, sym, ap, append_assoc, fold, ◌≤◌, length, get_or, drop, take, ◌-◌, arith}
use Rattle.std.proofs.lemmas.List.{append-nil}
use Rattle.std.specs.List.{cons_option}
use Rattle.std.specs.Prelude.{filter_map}
use Rattle.sb_value.specs.declared.lock.LockMode.{LockMode}
use Rattle.sb_check.specs.declared.tree.Source.{Source}
use Rattle.sb_eval.specs.Statement.{read_of, write_of, statement_locks}
use Rattle.sb_value.specs.declared.lock.LockMode.TheVariants.{Write}
use Rattle.sb_check.specs.declared.tree.Statement.{Statement}
use Rattle.sb_check.specs.declared.tree.Statement.TheVariants.{InsertRows, InsertQuery, Delete, Update}
use Rattle.sb_eval.specs.Target.{target, mentioned}

abbrev pub reads : List Source → List (ℕ × LockMode)
reads sources = filter_map read_of sources

cons-append : (o : Option (ℕ × LockMode)) (xs ys : List (ℕ × LockMode)) → cons_option o (xs ++ ys) ≡ cons_option o xs ++ ys
cons-append None xs ys = refl
cons-append (Some x) xs ys = refl

pub reads-append : (xs ys : List Source) → reads (xs ++ ys) ≡ reads xs ++ reads ys
reads-append [] ys = refl
reads-append (x ∷ xs) ys = ap (cons_option (read_of x)) (reads-append xs ys) ∙ cons-append (read_of x) (reads xs) (reads ys)

abbrev after : List (ℕ × LockMode) → Source → List (ℕ × LockMode)
after so_far source = so_far ++ reads (source ∷ [])

-- the sources that are shown are read after the reads so far
read-after : (i : List (ℕ × LockMode)) (sources : List Source) → fold after i sources ≡ i ++ reads sources
read-after i [] = sym (append-nil i)
read-after i (s ∷ rest) = read-after (after i s) rest ∙ append_assoc i (reads (s ∷ [])) (reads rest) ∙ ap (λ l. i ++ l) (sym (reads-append (s ∷ []) rest))

-- the reads of all sources that are shown
pub shown : (sources : List Source) (l : List (ℕ × LockMode)) → l ≡ fold after [] sources → l ≡ reads sources
shown sources l e = e ∙ read-after [] sources

-- the locks of a statement are the write of its target and what it mentions
pub locks_of : (s : Statement) (l : List (ℕ × LockMode)) → l ≡ (target s, Write) ∷ map (write_of (target s)) (reads (mentioned s)) → l ≡ statement_locks s
locks_of (InsertRows t rows) l e = e
locks_of (InsertQuery t q) l e = e
locks_of (Delete t c) l e = e
locks_of (Update t assignments c) l e = e

take_all : {A : Type 0} (xs : List A) → take (length xs) xs ≡ xs
take_all [] = refl
take_all (x ∷ xs) = λ i. x ∷ take_all xs i

-- what has a first element is that element and the others
pub whole : {A : Type 0} (xs : List A) (x : A) → 1 ≤ length xs → x ≡ get_or xs 0 x → xs ≡ x ∷ take (length xs - 1) (drop 1 xs)
whole [] x some e = absurd (omega arith)
whole (y ∷ ys) x some e =
    let n : length (y ∷ ys) - 1 ≡ length ys = omega arith in
    λ i. sym e i ∷ sym (ap (λ (k : ℕ). take k ys) n ∙ take_all ys) i
