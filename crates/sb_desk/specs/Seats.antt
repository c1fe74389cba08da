-- Promise: the numbers that the seats of a table know.
use Rattle.std.specs.Prelude.{ℕ, zero, suc, ◌+◌, ◌*◌, ◌/◌, ◌%◌, ◌≤◌, ◌≡◌, ◌==◌, if◌then◌else◌, List, [], ◌∷◌, take, drop}
use Rattle.atomic_table.specs.Seated.{TableId}
use Rattle.atomic_table.specs.declared.shared.Seat.{Seat}

-- how often n stands in the list
abbrev pub times : ℕ → List ℕ → ℕ
times n [] = 0
times n (x ∷ xs) = (if x == n then 1 else 0) + times n xs

-- how often n stands in all lists
abbrev pub times_in : ℕ → List (List ℕ) → ℕ
times_in n [] = 0
times_in n (v ∷ vs) = times n v + times_in n vs

-- no number stands twice in all lists together
abbrev pub NoneTwice : List (List ℕ) → Type 0
NoneTwice views = (n : ℕ) → times_in n views ≤ 1

-- the numbers from k on, n of them
unfoldable pub from : ℕ → ℕ → List ℕ
from k zero = []
from k (suc n) = k ∷ from (suc k) n

-- the numbers below n
abbrev pub below : ℕ → List ℕ
below n = from 0 n

abbrev pub first_of : List ℕ → List ℕ
first_of [] = []
first_of (x ∷ xs) = x ∷ []

abbrev pub rest_of : List ℕ → List ℕ
rest_of [] = []
rest_of (x ∷ xs) = xs

-- a cell has the numbers of 256 tenants of 8 sessions, however many of them there are
abbrev pub block_size : ℕ
block_size = 2048

abbrev pub block_of : List ℕ → List ℕ
block_of xs = take block_size xs

abbrev pub past_block : List ℕ → List ℕ
past_block xs = drop block_size xs

-- the number of a session, by its tenant's cell and its tenant's place there
abbrev pub number_at : ℕ → ℕ → ℕ → ℕ
number_at cell place session = 2048 * cell + (8 * place + session)

-- so the tenant's number and how many cells there are say it
abbrev pub number_of : ℕ → ℕ → ℕ → ℕ
number_of cells tenant session = number_at (tenant % cells) (tenant / cells) session

-- a session's seat
abbrev pub SessionSeat : Type 0
SessionSeat = Seat (Unit {0}) (List ℕ)

-- the table has one word, and this is its seat of all numbers below n
abbrev pub IsSeatOfAll : ℕ → TableId → SessionSeat → Type 0
IsSeatOfAll n z s = (z.words ≡ 1) × (s.table_id ≡ z) × (s.me ≡ (below n, []))

-- a part of a seat's numbers is split off, and the rest stays
abbrev pub SplitsOff : (List ℕ → List ℕ) → (List ℕ → List ℕ) → SessionSeat → SessionSeat → SessionSeat → Type 0
SplitsOff rest part old new off =
    (new.table_id ≡ old.table_id) × (new.me ≡ (rest old.me.0, old.me.1))
    × (off.table_id ≡ old.table_id) × (off.me ≡ (part old.me.0, []))

-- a seat of this table that knows this number alone
abbrev pub IsSeat : TableId → ℕ → SessionSeat → Type 0
IsSeat z n s = (s.table_id ≡ z) × (s.me ≡ (n ∷ [], []))

abbrev pub no_table : TableId
no_table = record { words = 0; slots = 0; views_name = 0; atom = 0; block = 0; offset = 0; slot_names = [] }
