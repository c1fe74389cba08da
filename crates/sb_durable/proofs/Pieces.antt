-- Batches that are read one after the other.
use Rattle.std.proofs.Common.{◌≡◌, ℕ, List, [], ◌∷◌, ◌++◌, length, Option, Some, None, refl, sym, ◌∙◌, ap, subst, append_assoc}
use Rattle.sqlite_disk.specs.declared.Disk.{Ghosts}
use Rattle.sb_durable.specs.Blocks.{blocks}
use Rattle.sb_durable.specs.Log.{HasAll, Reads}
use Rattle.sb_durable.specs.Records.{Entry, bytes_of}
use Rattle.sb_durable.specs.Journal.{head_bytes, contents_of, all_of, IsAt, Gives}
use Rattle.sb_durable.specs.declared.journal_header.Head.{Head}
use Rattle.sb_durable.specs.declared.journal.Journal.{Journal}
use Rattle.sb_durable.proofs.Batches.{contents-push}

pub contents-append : (xs ys : List (List Entry)) → contents_of (xs ++ ys) ≡ contents_of xs ++ contents_of ys
contents-append [] ys = refl
contents-append (x ∷ xs) ys = ap (λ (l : List (List ℕ)). bytes_of x ∷ l) (contents-append xs ys)

-- no batch is behind the last, and a batch is there before it
pub none_there : (head : Head) (front back : List (List Entry)) (bytes : List ℕ) → Reads (head_bytes head ∷ contents_of front) (contents_of back) bytes None → all_of back ≡ []
none_there head front [] bytes reads = refl
none_there head front (b ∷ back) bytes reads = absurd (cc (reads.1))

module _ {D : Type 0} {g : Ghosts D} (seen : D → List ℕ) (may_leave : D → List ℕ → Type 0) (journal : Journal D g) (head : Head) where
  some_there : (front back : List (List Entry)) (bytes : List ℕ) (next : ℕ) → HasAll seen may_leave journal.log (head_bytes head ∷ contents_of (front ++ back))
      → Reads (head_bytes head ∷ contents_of front) (contents_of back) bytes (Some next) → Gives (IsAt seen may_leave journal head) (all_of back) bytes (Some next)
  some_there front [] bytes next has reads = absurd (cc (reads))
  some_there front (b ∷ back) bytes next has reads =
      let place : next ≡ length (blocks (head_bytes head ∷ contents_of (front ++ b ∷ []))) =
      cc (reads.1) ∙ ap (λ (cs : List (List ℕ)). length (blocks (head_bytes head ∷ cs))) (sym (contents-push front b)) in
      let log = subst (λ (bs : List (List Entry)). HasAll seen may_leave journal.log (head_bytes head ∷ contents_of bs)) (sym (append_assoc front (b ∷ []) back)) has in
      (b, all_of back, reads.0, refl, record { front = front ++ b ∷ []; back = back; log = log; reach = place; all = refl })

  pub gives : (entries : List Entry) (bytes : List ℕ) (next : Option ℕ) (front back : List (List Entry)) → entries ≡ all_of back → HasAll seen may_leave journal.log (head_bytes head ∷ contents_of (front ++ back))
      → Reads (head_bytes head ∷ contents_of front) (contents_of back) bytes next → Gives (IsAt seen may_leave journal head) entries bytes next
  gives entries bytes None front back all has reads = all ∙ none_there head front back bytes reads
  gives entries bytes (Some next) front back all has reads =
      subst (λ (es : List Entry). Gives (IsAt seen may_leave journal head) es bytes (Some next)) (sym all) (some_there front back bytes next has reads)

-- where a log has a content, one is read, and where it has none, none is
pub no_none : (first : List ℕ) (others : List (List ℕ)) (bytes : List ℕ) (next : Option ℕ) → Reads [] (first ∷ others) bytes next → next ≡ None → ⊥
no_none first others bytes next reads none = absurd (cc (reads.1, none))

pub no_some : (bytes : List ℕ) (next : Option ℕ) (place : ℕ) → Reads [] [] bytes next → next ≡ Some place → ⊥
no_some bytes next place reads some = absurd (cc (reads, some))
