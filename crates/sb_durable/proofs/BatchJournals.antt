-- What a journal is after a commit, over one file and over the files of a folder.
use Rattle.std.proofs.Common.{◌≡◌, ◌⊎◌, ℕ, List, [], ◌∷◌, ◌++◌, append-nil, refl, sym, subst, inl, inr}
use Rattle.sqlite_disk.specs.declared.Disk.{Ghosts}
use Rattle.sb_durable.specs.BatchJournals.{Base, HasFile, IsFileSpent, IsLater, KeepsFile, KeepsFiles}
use Rattle.sb_durable.specs.Journal.{Has, Keeps}
use Rattle.sb_durable.specs.Records.{Entry}
use Rattle.sb_durable.specs.Row.{Filed}
use Rattle.sb_durable.specs.RowJournal.{KeepRow}
use Rattle.sb_durable.specs.RowJournals.{HasRow, newest_of}
use Rattle.sb_durable.specs.Segment.{IsSpent}
use Rattle.sb_durable.specs.declared.journal.Journal.{Journal}
use Rattle.sb_durable.specs.declared.journal_header.Head.{Head}
use Rattle.sb_durable.specs.declared.row_journal.RowJournal.{RowJournal}

module _ {D : Type 0} {g : Ghosts D} (seen : D → List ℕ) (may_leave : D → List ℕ → Type 0) (old new : Journal D g) where
  -- nothing was done, or it is given up
  pub still_file : ((head : Head) (entries waiting : List Entry) → Has seen may_leave old head entries waiting → Has seen may_leave new head entries waiting) ⊎ IsFileSpent new
      → ((base : Base) (entries waiting : List Entry) → HasFile seen may_leave old base entries waiting → HasFile seen may_leave new base entries waiting) ⊎ IsFileSpent new
  still_file (inl still) = inl (λ base entries waiting has. (has.0, still base.head entries waiting has.1))
  still_file (inr spent) = inr spent

module _ {D : Type 0} {g : Ghosts D} (seen : D → List ℕ) (may_leave : D → List ℕ → Type 0) (old new : RowJournal D g) where
  pub still_row : ((head : Head) (older : List Filed) (entries waiting : List Entry) → HasRow seen may_leave old head older entries waiting → HasRow seen may_leave new head older entries waiting) ⊎ IsSpent (newest_of new)
      → ((base : Base) (entries waiting : List Entry) → HasRow seen may_leave old base.head base.older entries waiting → HasRow seen may_leave new base.head base.older entries waiting) ⊎ IsSpent (newest_of new)
  still_row (inl still) = inl (λ base entries waiting has. still base.head base.older entries waiting has)
  still_row (inr spent) = inr spent

-- it goes on where it was
pub later_same : (base : Base) → IsLater base base
later_same base = record { same = refl; more = []; older = sym (append-nil base.older) }

pub may_file : (base : Base) (entries waiting : List Entry) (files : List (List ℕ)) (file : List ℕ) → files ≡ file ∷ [] → Keeps base.head entries file ⊎ Keeps base.head (entries ++ waiting) file
    → KeepsFile base entries files ⊎ KeepsFile base (entries ++ waiting) files
may_file base entries waiting files file is (inl before) = inl (file, before, is)
may_file base entries waiting files file is (inr after) = inr (file, after, is)

pub may_files : (base : Base) (entries waiting : List Entry) (files front : List (List ℕ)) (file : List ℕ) → files ≡ front ++ file ∷ []
    → KeepRow base.head entries (front ++ file ∷ []) ⊎ KeepRow base.head (entries ++ waiting) (front ++ file ∷ []) → KeepsFiles base entries files ⊎ KeepsFiles base (entries ++ waiting) files
may_files base entries waiting files front file is (inl before) = inl (subst (λ (fs : List (List ℕ)). KeepRow base.head entries fs) (sym is) before)
may_files base entries waiting files front file is (inr after) = inr (subst (λ (fs : List (List ℕ)). KeepRow base.head (entries ++ waiting) fs) (sym is) after)
