-- Machine: which list a change is in: of each kind of list, that of its bucket, which what the list's walks look for decides.
use Rattle.std.specs.Prelude.{ℕ, ◌+◌, ◌*◌, ◌/◌, ◌%◌, ◌^◌, List, Option}
use Rattle.sb_value.specs.declared.change.ChangeKind.{ChangeKind}
use Rattle.sb_value.specs.declared.change.ChangeKind.TheVariants.{Inserted, Deleted, Updated}
use Rattle.sb_value.specs.declared.change.Change.{Change}
use Rattle.sb_rawlog.specs.declared.node.Which.{Which}
use Rattle.sb_rawlog.specs.declared.node.Which.TheVariants.{Op, Tuple, Session}
use Rattle.sb_rawlog.specs.declared.key.Key.{Key}
use Rattle.sb_rawlog.specs.declared.key.Key.TheVariants.{Op as OpKey, Tuple as TupleKey, Session as SessionKey}

-- one number for a session's table
unfoldable pub group : ℕ → ℕ → ℕ → ℕ
group tenant session table = (tenant * 8 + session) * 16 + table

-- the upper half of a sum of products
unfoldable pub mixed : ℕ → ℕ → ℕ
mixed g x = ((g * 11400714819323198485) % 2 ^ 64 + (x * 14029467366897019727) % 2 ^ 64) % 2 ^ 64 / 4294967296

abbrev pub kind_number : ChangeKind → ℕ
kind_number Inserted = 0
kind_number Deleted = 1
kind_number Updated = 2

unfoldable pub session_number : ℕ → ℕ → ℕ
session_number tenant session = (tenant * 8 + session) % 2048

-- a change's bucket in each kind of list, of n by session, table and kind, and m by tuple; the sessions' lists have a bucket for each session
abbrev pub bucket : ℕ → ℕ → Which → Change → ℕ
bucket n m Op c = mixed (group c.tenant c.session c.table) (kind_number c.kind) % n
bucket n m Tuple c = mixed (group c.tenant c.session c.table) c.tuple % m
bucket n m Session c = session_number c.tenant c.session

-- the list, and the bucket, of the changes that fit a key
abbrev pub list_of : Key → Which
list_of (OpKey who table kind) = Op
list_of (TupleKey who table tuple) = Tuple
list_of (SessionKey who) = Session

abbrev pub key_bucket : ℕ → ℕ → Key → ℕ
key_bucket n m (OpKey who table kind) = mixed (group who.tenant who.session table) (kind_number kind) % n
key_bucket n m (TupleKey who table tuple) = mixed (group who.tenant who.session table) tuple % m
key_bucket n m (SessionKey who) = session_number who.tenant who.session

abbrev pub by_which : List (Option ℕ) → List (Option ℕ) → List (Option ℕ) → Which → List (Option ℕ)
by_which ops tuples sessions Op = ops
by_which ops tuples sessions Tuple = tuples
by_which ops tuples sessions Session = sessions
