-- The next numbers of tables.
use Rattle.std.proofs.Common.{ℕ, ◌<◌, ◌≤◌, Bool, true, false, cond, nat_eq, List, [], ◌∷◌, arith}
use Rattle.sb_value.specs.declared.change.Change.{Change}
use Rattle.sb_value.specs.declared.change.ChangeKind.{ChangeKind}
use Rattle.sb_value.specs.declared.change.ChangeKind.TheVariants.{Inserted, Deleted, Updated}
use Rattle.sb_value.specs.Table.{Entry, after, after_all, after_change, after_kind}
use Rattle.sb_process.specs.Made.{EachBelow}

pub each-weaken : (m n : ℕ) (tables : List Entry) → m ≤ n → EachBelow m tables → EachBelow n tables
each-weaken m n [] l h = tt
each-weaken m n (e ∷ tables) l h = let first = h.0 in (omega (arith, first, l), each-weaken m n tables l h.1)

-- numbers only go up
each-after : (n : ℕ) (c : Change) (tables : List Entry) → EachBelow n (after c tables) → EachBelow n tables
each-after n c [] h = tt
each-after n c (e ∷ tables) h = (by (nat_eq e.id c.table) h.0, each-after n c tables h.1)
  where
    of : (k : ChangeKind) → (after_kind k c e.table).next < n → e.table.next < n
    of Inserted l = omega (arith, l)
    of Deleted l = l
    of Updated l = l

    by : (b : Bool) → (cond b (record e { table = after_change c e.table }) e).table.next < n → e.table.next < n
    by true l = of c.kind l
    by false l = l

pub each-before : (n : ℕ) (cs : List Change) (tables : List Entry) → EachBelow n (after_all cs tables) → EachBelow n tables
each-before n [] tables h = h
each-before n (c ∷ cs) tables h = each-after n c tables (each-before n cs (after c tables) h)
