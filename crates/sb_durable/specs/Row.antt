-- Promise: a journal as a row of segments, each of which goes on where the one before it ends.
use Rattle.std.specs.Prelude.{◌≡◌, ◌⊎◌, ℕ, ◌+◌, List, [], ◌∷◌, ◌++◌, length, flat_map}
use Rattle.sb_durable.specs.Head.{Head, IsHead, IsUnbegun, IsBeforeOrAfter, IsLeft, last_digest, Stands}
use Rattle.sb_durable.specs.Chain.{HasCollision}

-- a segment as its file has it
pub record Filed : Type 0 where
  pub head : Head
  pub contents : List (List ℕ)

-- the digest that binds it
abbrev pub binding : Filed → ℕ
binding one = last_digest one.head one.contents

-- A head goes on where that segment ends: it has the next number, the digest at the end, and the same settings.
pub record IsNext (one : Filed) (next : Head) : Type 0 where
  pub number : next.number ≡ one.head.number + 1
  pub before : next.before ≡ binding one
  pub settings : next.settings ≡ one.head.settings

-- the head of the segment behind one with this head and this digest at its end
abbrev pub next_head : Head → ℕ → Head
next_head head end = record { number = head.number + 1; before = end; settings = head.settings }

-- ---- a row

-- the first of these goes on where that one ends
abbrev pub Continue : Filed → List Filed → Type 0
Continue one [] = Unit {0}
Continue one (next ∷ more) = IsNext one next.head

-- the oldest stands first
abbrev pub IsRow : List Filed → Type 0
IsRow [] = Unit {0}
IsRow (one ∷ more) = IsHead one.head × Continue one more × IsRow more

-- the digest at the end of a row, behind that one
abbrev pub row_digest : ℕ → List Filed → ℕ
row_digest before [] = before
row_digest before (one ∷ more) = row_digest (binding one) more

-- the contents of all segments, in order
abbrev pub all_contents : List Filed → List (List ℕ)
all_contents row = flat_map (λ one. one.contents) row

-- each has these settings
abbrev pub HaveSettings : List ℕ → List Filed → Type 0
HaveSettings settings [] = Unit {0}
HaveSettings settings (one ∷ more) = (one.head.settings ≡ settings) × HaveSettings settings more

-- ---- files

-- each file stands for its segment
abbrev pub AreFiled : List Filed → List (List ℕ) → Type 0
AreFiled [] [] = Unit {0}
AreFiled (one ∷ more) (file ∷ files) = Stands one.head one.contents file × AreFiled more files
AreFiled [] (file ∷ files) = ⊥
AreFiled (one ∷ more) [] = ⊥

-- each is as a crash leaves it
abbrev pub AreLeft : List Filed → List (List ℕ) → Type 0
AreLeft [] [] = Unit {0}
AreLeft (one ∷ more) (file ∷ files) = IsLeft one.head one.contents file × AreLeft more files
AreLeft [] (file ∷ files) = ⊥
AreLeft (one ∷ more) [] = ⊥

-- there is no more behind the newest segment than a file that has not begun
abbrev pub IsRowEnd : List (List ℕ) → Type 0
IsRowEnd [] = Unit {0}
IsRowEnd (file ∷ []) = IsUnbegun file
IsRowEnd (file ∷ other ∷ files) = ⊥

-- The files of a folder, in the order of their numbers, hold these contents in a row of segments with these settings.
pub record Hold (settings : List ℕ) (contents : List (List ℕ)) (files : List (List ℕ)) : Type 0 where
  pub row : List Filed
  pub is_row : IsRow row
  pub same_settings : HaveSettings settings row
  pub all : contents ≡ all_contents row
  pub begun : List (List ℕ)
  pub are : AreLeft row begun
  pub behind : List (List ℕ)
  pub whole : files ≡ begun ++ behind
  pub over : IsRowEnd behind

-- what was there, or that and one content more
abbrev pub HoldBeforeOrAfter : List ℕ → List (List ℕ) → List ℕ → List (List ℕ) → Type 0
HoldBeforeOrAfter settings contents content files = Hold settings contents files ⊎ Hold settings (contents ++ content ∷ []) files

-- ---- laws

-- as many segments with one digest at the end are the same segments, or a collision is at hand
abbrev pub OneEndOneRow : Type 0
OneEndOneRow =
    (before : ℕ) (row others : List Filed) → IsRow row → IsRow others → length row ≡ length others → row_digest before row ≡ row_digest before others
    → (row ≡ others) ⊎ HasCollision

-- files stand for one row at most
abbrev pub OneFolderOneRow : Type 0
OneFolderOneRow = (files : List (List ℕ)) (row others : List Filed) → AreFiled row files → AreFiled others files → row ≡ others

-- where the oldest segments of a row are gone, a row is left
abbrev pub NewerAreARow : Type 0
NewerAreARow = (older newer : List Filed) → IsRow (older ++ newer) → IsRow newer

-- Only the newest segment is written: what an append may leave of its file, the folder has before or after it.
abbrev pub OnlyTheNewestIsWritten : Type 0
OnlyTheNewestIsWritten =
    (settings : List ℕ) (older : List Filed) (newest : Filed) (files : List (List ℕ)) → IsRow (older ++ newest ∷ []) → HaveSettings settings (older ++ newest ∷ []) → AreLeft older files
    → (content file : List ℕ) → IsBeforeOrAfter newest.head newest.contents content file
    → HoldBeforeOrAfter settings (all_contents (older ++ newest ∷ [])) content (files ++ file ∷ [])

-- What a crash leaves while a segment is begun behind the newest, the folder holds as before.
abbrev pub BegunBehind : Type 0
BegunBehind =
    (settings : List ℕ) (row : List Filed) (head : Head) (files : List (List ℕ)) → IsRow (row ++ (record { head = head; contents = [] }) ∷ [])
    → HaveSettings settings (row ++ (record { head = head; contents = [] }) ∷ []) → AreLeft row files
    → (file : List ℕ) → IsUnbegun file ⊎ IsLeft head [] file → Hold settings (all_contents row) (files ++ file ∷ [])
