use Rattle.std.proofs.Common.{[], ◌∷◌, List, ℕ, refl, sym, subst, inl, inr, IsTrue}
use Rattle.sb_durable.specs.Blocks.{Stands}
use Rattle.sb_durable.specs.Log.{HasAll}
use Rattle.sb_durable.specs.Records.{Entry}
use Rattle.sb_durable.specs.Journal.{Has, Keeps, contents_of}
use Rattle.sb_durable.proofs.Shortened.{keeps_first}
use Rattle.sb_durable.proofs.log_header.open_journal.Goals as goal

-- a head is there, and it is this one
pub returns-in-Ok-begin-clause-there : goal.returns-in-Ok-begin-clause-there
returns-in-Ok-begin-clause-there g c clean other entries keeps =
    let disk = g.D.Disk in
    let begun = subst (λ (d : g.row.D.Denot). IsTrue (disk.is_clean d)) c.over.ensures.disk clean in
    let opened = c.in-Ok.ensures.ok (c.begin.ensures.clean begun) _ keeps.stands in
    let log = subst (λ (h : List ℕ). HasAll disk.seen disk.may_leave c.begin.new.log (h ∷ contents_of keeps.batches)) (c.in-Ok-begin.ensures.found begun _ _ opened) (c.begin.ensures.kept begun _ _ opened) in
    subst (λ (es : List Entry). Has disk.seen disk.may_leave c.over.result c.args.head es []) (sym keeps.all) (c.over.ensures.has _ _ log)

-- none is there, and this one is written
pub returns-in-Ok-begin-clause-begun : goal.returns-in-Ok-begin-clause-begun
returns-in-Ok-begin-clause-begun g c clean empty =
    let begun = subst (λ (d : g.row.D.Denot). IsTrue (g.D.Disk.is_clean d)) c.over.ensures.disk clean in
    c.over.ensures.has _ [] (c.in-Ok-begin.ensures.begun begun (c.in-Ok.ensures.ok (c.begin.ensures.clean begun) [] empty))

-- of a file that was cut, the head is there with the first records, or nothing is
pub returns-in-Ok-begin-clause-cut : goal.returns-in-Ok-begin-clause-cut
returns-in-Ok-begin-clause-cut g c clean other entries file n keeps cut = elim (keeps_first n other entries file keeps) [
  | inl none ↦ ([], entries, refl, returns-in-Ok-begin-clause-begun g c clean (subst (λ (f : List ℕ). Stands [] f) (sym cut) none))
  | inr (first, others, parts, kept) ↦ (first, others, parts, returns-in-Ok-begin-clause-there g c clean other first (subst (λ (f : List ℕ). Keeps other first f) (sym cut) kept))
]
