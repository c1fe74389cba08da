-- Promise: laws of net effects and of the order, as statements.
use Rattle.std.specs.List.{list_any}
use Rattle.sb_value.specs.Printable.{AreTextBytes}
use Rattle.sb_value.specs.Literal.{value_text, literal_value}
use Rattle.sb_value.specs.declared.value.Value.{Value}
use Rattle.sb_value.specs.declared.value.Value.TheVariants.{Int, Text}
use Rattle.std.specs.Prelude.{◌-◌, ◌^◌, pos, negsuc, int_le, Ok, ◌≡◌, ℕ, Bool, true, false, ◌&&◌, ◌==◌, List, [], ◌∷◌, ◌++◌, IsTrue, IsFalse, ◌↔◌}
use Rattle.sb_value.specs.Columns.{set_of, with_place}
use Rattle.sb_value.specs.NetEffect.{history, net_effect, then_net, update_between, is_operation, is_triggered}
use Rattle.sb_value.specs.Table.{Entry, table_at, IsTable, IsProper, new_row, old_row}
use Rattle.sb_value.specs.Order.{Precedes, precedes}
use Rattle.sb_value.specs.declared.change.Change.{Change}
use Rattle.sb_value.specs.declared.change.ChangeKind.{ChangeKind}
use Rattle.sb_value.specs.declared.change.ChangeKind.TheVariants.{Inserted, Deleted, Updated}
use Rattle.sb_value.specs.declared.net.Triggers.{Triggers}

-- what may come next on one tuple: nothing after its delete, and its insert after nothing
abbrev pub may_follow : ChangeKind → ChangeKind → Bool
may_follow Inserted Inserted = false
may_follow Inserted Updated = true
may_follow Inserted Deleted = true
may_follow Updated Inserted = false
may_follow Updated Updated = true
may_follow Updated Deleted = true
may_follow Deleted next = false

-- a change of the tuple after another one: it may come next, and takes the row that the other left
abbrev pub Follows : Change → Change → Type 0
Follows c d = IsTrue (may_follow c.kind d.kind) × (old_row d ≡ new_row c)

-- the changes of one tuple, as a proper list has them
abbrev pub IsLife : List Change → Type 0
IsLife [] = Unit {0}
IsLife (c ∷ []) = Unit {0}
IsLife (c ∷ d ∷ ds) = Follows c d × IsLife (d ∷ ds)

-- each tuple's changes are one
abbrev pub AreLives : List Change → Type 0
AreLives changes = (table tuple : ℕ) → IsLife (history changes table tuple)

-- the net effect of two lists, one after the other, is the two net effects composed
abbrev pub NetEffectsCompose : Type 0
NetEffectsCompose =
    (xs ys : List Change) (table tuple : ℕ) → IsLife (history (xs ++ ys) table tuple) →
    net_effect (xs ++ ys) table tuple ≡ then_net (net_effect xs table tuple) (net_effect ys table tuple)

-- whether a change is one of the triggering operations; an update that alters no value is none
abbrev pub kind_triggers : ChangeKind → Triggers → Change → Bool
kind_triggers Inserted triggers c = triggers.inserted
kind_triggers Deleted triggers c = triggers.deleted
kind_triggers Updated triggers c = is_operation triggers (update_between (old_row c) (new_row c))

-- a rule that a list does not trigger and the list with one more change does has an operation of that change
abbrev pub LastChangeTriggers : Type 0
LastChangeTriggers =
    (triggers : Triggers) (table : ℕ) (xs : List Change) (c : Change) → AreLives (xs ++ c ∷ []) →
    IsFalse (is_triggered triggers table xs) → IsTrue (is_triggered triggers table (xs ++ c ∷ [])) →
    (c.table ≡ table) × IsTrue (kind_triggers c.kind triggers c)

-- the net effect on a tuple that the second of two lists leaves alone is that of the first
abbrev pub UntouchedTuplesStay : Type 0
UntouchedTuplesStay =
    (xs ys : List Change) (table tuple : ℕ) → history ys table tuple ≡ [] → net_effect (xs ++ ys) table tuple ≡ net_effect xs table tuple

-- the change is one of the rule's operations, and so is the net effect of all the changes on its tuple
abbrev pub brings_about : Triggers → ℕ → List Change → Change → Bool
brings_about triggers table changes c = (c.table == table) && (kind_triggers c.kind triggers c && is_operation triggers (net_effect changes table c.tuple))

-- a rule that the first of two lists does not trigger is triggered by both exactly where a change of the second brings it about
abbrev pub NewChangesTrigger : Type 0
NewChangesTrigger =
    (triggers : Triggers) (table : ℕ) (xs ys : List Change) → AreLives (xs ++ ys) → IsFalse (is_triggered triggers table xs) →
    is_triggered triggers table (xs ++ ys) ≡ list_any (brings_about triggers table (xs ++ ys)) ys

-- the test is the transitive closure of the pairs
abbrev pub PrecedesIsClosure : Type 0
PrecedesIsClosure = (pairs : List (ℕ × ℕ)) (a b : ℕ) → Precedes pairs a b ↔ IsTrue (precedes pairs a b)

-- in a proper list the changes of one tuple are: its insert first, then updates, its delete last, each of the row before it
abbrev pub ProperListsHaveLives : Type 0
ProperListsHaveLives =
    (tables : List Entry) (changes : List Change) (table tuple : ℕ) → IsTable (table_at tables table) → IsProper tables changes →
    IsLife (history changes table tuple)

-- what a value is in the range of: an integer of 64 bits, a text of at most 255 printable bytes
abbrev pub IsInRange : Value → Type 0
IsInRange (Int z) = IsTrue (int_le (negsuc (2 ^ 63 - 1)) z && int_le z (pos (2 ^ 63 - 1)))
IsInRange (Text bytes) = AreTextBytes bytes

-- the text of a value is a literal that gives the value back
abbrev pub LiteralsGiveValuesBack : Type 0
LiteralsGiveValuesBack = (v : Value) → IsInRange v → literal_value (value_text v) ≡ Ok v

-- a set of places with one place more is the set of the longer list
abbrev pub SetsTakePlaces : Type 0
SetsTakePlaces = (places : List ℕ) (place : ℕ) → with_place (set_of places) place ≡ set_of (places ++ place ∷ [])
