-- What work leaves, one piece after another.
use Rattle.std.proofs.Common.{◌≡◌, ◌∙◌, ℕ, ◌+◌, ◌≤◌, List, Option, refl, sym, ap, subst, arith}
use Rattle.sb_tables.specs.Held.{Held, entries}
use Rattle.sb_locks.specs.Held.{Holders}
use Rattle.sb_rawlog.specs.Records.{Record}
use Rattle.sb_rawlog.specs.Sessions.{OthersStay}
use Rattle.sb_process.specs.declared.database.Database.{Database}
use Rattle.sb_process.specs.Leaves.{HasRoom, Leaves}
use Rattle.sb_process.specs.Made.{EachBelow, NumbersBelow}
use Rattle.sb_process.specs.Represents.{who_in}
use Rattle.sb_process.specs.Transactions.{Kept, OtherSessionsStay}
use Rattle.sb_process.proofs.Numbers.{each-weaken}

-- ---- one after the other

pub sessions-on : (a b c : Kept) (session : ℕ) → OtherSessionsStay a b session → OtherSessionsStay b c session → OtherSessionsStay a c session
sessions-on a b c session f h s r other = ((h s r other).0 ∙ (f s r other).0, (h s r other).1 ∙ (f s r other).1, (h s r other).2 ∙ (f s r other).2)

pub others-on : (session : ℕ) (old mid : Database) (a b c : List Record) → mid.id ≡ old.id → OthersStay (who_in old session) a b → OthersStay (who_in mid session) b c → OthersStay (who_in old session) a c
others-on session old mid a b c same f h = λ other differs. h other (λ e. differs (e ∙ ap (λ (id : ℕ). record { tenant = id; session = session }) same)) ∙ f other differs

pub leaves-on : {n m session : ℕ} {one two three : Database} {a b c : List Record} {x y z : ℕ} → Leaves n one two session a b x y → Leaves m two three session b c y z → Leaves (n + m) one three session a c x z
leaves-on {n} {m} {session} {one} {two} {three} {a} {b} {c} f h = record {
  id = h.id ∙ f.id;
  sessions = sessions-on one.transactions two.transactions three.transactions session f.sessions h.sessions;
  others = others-on session one two a b c f.id f.others h.others;
  times = (omega (arith, f.times.0, h.times.0), omega (arith, f.times.1, h.times.1));
  numbers = λ k below. each-weaken (k + n + m) (k + (n + m)) (entries three.tables) (omega arith) (h.numbers (k + n) (f.numbers k below));
}

-- what rises by little rises by no more than what rises by more
pub leaves-more : {n : ℕ} (m : ℕ) {session : ℕ} {old new : Database} {a b : List Record} {x y : ℕ} → Leaves n old new session a b x y → n ≤ m → Leaves m old new session a b x y
leaves-more {n} m {session} {old} {new} h le = record {
  id = h.id;
  sessions = h.sessions;
  others = h.others;
  times = (h.times.0, omega (arith, le, h.times.1));
  numbers = λ k below. each-weaken (k + n) (k + m) (entries new.tables) (omega (arith, le)) (h.numbers k below);
}

-- work whose changes are then taken back
pub leaves-back : {n session : ℕ} {old mid new : Database} {a b c : List Record} {x y z : ℕ} → Leaves n old mid session a b x y → new.id ≡ mid.id → OtherSessionsStay mid.transactions new.transactions session →
    OthersStay (who_in mid session) b c → z ≡ y → ((m : ℕ) → NumbersBelow m mid.tables → NumbersBelow m new.tables) → Leaves n old new session a c x z
leaves-back {n} {session} {old} {mid} {new} {a} {b} {c} f id sessions others clock numbers = record {
  id = id ∙ f.id;
  sessions = sessions-on old.transactions mid.transactions new.transactions session f.sessions sessions;
  others = others-on session old mid a b c f.id f.others others;
  times = (omega (arith, f.times.0, clock), omega (arith, f.times.1, clock));
  numbers = λ k below. numbers (k + n) (f.numbers k below);
}

-- ---- what is as before

-- the log and the tables
pub leaves-same : (n : ℕ) {session : ℕ} {old new : Database} {a : List Record} {x : ℕ} → new.id ≡ old.id → new.tables ≡ old.tables → OtherSessionsStay old.transactions new.transactions session → Leaves n old new session a a x x
leaves-same n {session} {old} {new} id tables sessions = record {
  id = id;
  sessions = sessions;
  others = λ other differs. refl;
  times = (omega arith, omega arith);
  numbers = λ k below. each-weaken k (k + n) (entries new.tables) (omega arith) (subst (λ (ts : List Held). EachBelow k (entries ts)) (sym tables) below);
}

-- all
pub leaves-all : (n : ℕ) {session : ℕ} {old new : Database} {a : List Record} {x : ℕ} → new ≡ old → Leaves n old new session a a x x
leaves-all n {session} {old} {new} {a} {x} same = subst (λ (d : Database). Leaves n old d session a a x x) (sym same) (leaves-same n refl refl (λ s r other. (refl, refl, refl)))

-- what is left of a database is left of it with other locks
pub leaves-locked : {n : ℕ} {session : ℕ} {old new : Database} {locks : Holders} {a b : List Record} {x y : ℕ} → Leaves n (record old { locks = locks }) new session a b x y → Leaves n old new session a b x y
leaves-locked h = record { id = h.id; sessions = h.sessions; others = h.others; times = h.times; numbers = h.numbers }

-- all but times and candidates of the session
pub leaves-tables : (n : ℕ) {session : ℕ} {old new : Database} {a : List Record} {x : ℕ} → new ≡ record old { transactions = new.transactions } → OtherSessionsStay old.transactions new.transactions session → Leaves n old new session a a x x
leaves-tables n {session} {old} {new} same sessions = leaves-same n (ap (λ (d : Database). d.id) same) (ap (λ (d : Database). d.tables) same) sessions

-- all but the locks, what is left of the budget, and times and candidates of the session
pub leaves-marked : (n : ℕ) {session : ℕ} {old mid new : Database} {a : List Record} {x : ℕ} → mid ≡ record old { transactions = mid.transactions } → new ≡ record mid { locks = new.locks; left = new.left } →
    OtherSessionsStay old.transactions mid.transactions session → Leaves n old new session a a x x
leaves-marked n {session} {old} {mid} {new} marked locked sessions =
    leaves-same n (ap (λ (d : Database). d.id) locked ∙ ap (λ (d : Database). d.id) marked) (ap (λ (d : Database). d.tables) locked ∙ ap (λ (d : Database). d.tables) marked)
    (subst (λ (k : Kept). OtherSessionsStay old.transactions k session) (sym (ap (λ (d : Database). d.transactions) locked)) sessions)

-- what is left of a database is left of it with another budget
pub leaves-charged : {n : ℕ} {session : ℕ} {old new : Database} (left : Option ℕ) {a b : List Record} {x y : ℕ} → Leaves n old new session a b x y → Leaves n old (record new { left = left }) session a b x y
leaves-charged left h = record { id = h.id; sessions = h.sessions; others = h.others; times = h.times; numbers = h.numbers }

-- ---- room

-- the numbers stay below the last one by so much as they can rise
pub room-below : {n clock : ℕ} {tables : List Held} (below : ℕ) → HasRoom n clock tables → 18446744073709551615 ≤ below + n → NumbersBelow below tables
room-below {n} {clock} {tables} below room le = let m = room.numbers in each-weaken m.0 below (entries tables) (omega (arith, m.1, le)) m.2

pub room-less : {n m clock : ℕ} {tables : List Held} → HasRoom n clock tables → m ≤ n → HasRoom m clock tables
room-less {n} {m} room le =
    let times = room.times in let numbers = room.numbers in
    record { times = omega (arith, le, times); numbers = (numbers.0, omega (arith, le, numbers.1), numbers.2) }

-- behind a piece of work there is room for the rest
pub room-behind : {n m : ℕ} {old new : Database} {session : ℕ} {a b : List Record} {x y : ℕ} → HasRoom (n + m) x old.tables → Leaves n old new session a b x y → HasRoom m y new.tables
room-behind {n} {m} room h =
    let times = room.times in let numbers = room.numbers in
    record { times = omega (arith, times, h.times.1); numbers = (numbers.0 + n, omega (arith, numbers.1), h.numbers numbers.0 numbers.2) }
