-- Machine: the holders of a tenant's tables, as words with a bit for each session.
use Rattle.std.specs.Prelude.{◌≡◌, ℕ, Bool, ◌&&◌, ◌||◌, ◌==◌, List, slice_index}
use Rattle.std.specs.Int.{bit_at}
use Rattle.sb_value.specs.Locks.{Locks, same_mode}
use Rattle.sb_value.specs.declared.lock.LockMode.{LockMode}
use Rattle.sb_value.specs.declared.lock.LockMode.TheVariants.{Read, Write}

-- a word for each table
pub record Holders : Type 0 where
  pub readers : List ℕ
  pub writers : List ℕ

-- true if the session is one of the holders
abbrev pub has : ℕ → ℕ → Bool
has holders session = bit_at holders session == 1

-- the locks that stand in the words
abbrev pub held : Holders → Locks
held locks session table Read = has (slice_index locks.readers table) session
held locks session table Write = has (slice_index locks.writers table) session

-- the same locks are held
abbrev pub Agree : Locks → Locks → Type 0
Agree one other = (s t : ℕ) (m : LockMode) → one s t m ≡ other s t m

-- the locks with one more
abbrev pub with_lock : Locks → ℕ → ℕ → LockMode → Locks
with_lock locks session table mode s t m = locks s t m || ((s == session) && ((table == t) && same_mode mode m))

-- true if the session is one of the table's holders
abbrev pub holds : List ℕ → ℕ → ℕ → Bool
holds tables session table = has (slice_index tables table) session
