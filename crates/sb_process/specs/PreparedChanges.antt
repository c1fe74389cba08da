-- Machine: changes that are ready to be made: nothing of them needs memory any more.
use Rattle.std.specs.Prelude.{◌≡◌, ◌⊎◌, ℕ, List, [], ◌∷◌, ◌++◌, Option, Result, Err, IsTrue}
use Rattle.sb_value.specs.declared.change.Change.{Change}
use Rattle.sb_value.specs.declared.value.Value.{Value}
use Rattle.sb_value.specs.declared.id.Who.{Who}
use Rattle.sb_value.specs.declared.refusal.Refusal.{Refusal}
use Rattle.sb_value.specs.declared.refusal.Refusal.TheVariants.{NoMemory}
use Rattle.sb_value.specs.Table.{IsProper}
use Rattle.sb_eval.specs.Laws.{AreChangesOf}
use Rattle.sb_tables.specs.Stored.{Stored}
use Rattle.sb_tables.specs.Held.{Held, entries, has_number, stored_at}
use Rattle.sb_tables.specs.Undo.{stored_after}
use Rattle.sb_process.specs.Made.{AreNumbered}
use Rattle.sb_process.specs.Make.{HasPlaceFor, room_after}
use Rattle.sb_rawlog.specs.Records.{Record}
use Rattle.sb_process.specs.declared.database.Database.{Database}
use Rattle.sb_process.specs.Represents.{Represents}
use Rattle.sb_process.specs.Setting.{Setting, Progress}
use Rattle.sb_process.specs.Statement.{with_effect_of, counted}

-- the new rows of the changes, that of the first change last
abbrev pub copies_of : List Change → List (Option (List Value))
copies_of [] = []
copies_of (c ∷ cs) = copies_of cs ++ c.new ∷ []

-- what is stored once a change is made, with the room that is left
abbrev pub made_of : Change → Stored → Stored
made_of c s = record (stored_after c s) { room = room_after c.kind s.room }

-- each change finds its place after those before it
abbrev pub HavePlacesFor : List Change → Stored → Type 0
HavePlacesFor [] s = Unit {0}
HavePlacesFor (c ∷ cs) s = HasPlaceFor c.kind s × HavePlacesFor cs (made_of c s)

-- the changes, all of one table and by one session, can be made of the tables without memory
pub record CanApply (tables : List Held) (who : Who) (id : ℕ) (changes : List Change) : Type 0 where
  pub numbered : AreNumbered tables
  pub there : IsTrue (has_number tables id)
  pub proper : IsProper (entries tables) changes
  pub own : AreChangesOf who id changes
  pub places : HavePlacesFor changes (stored_at tables id)

-- with the locks granted, the changes that are meant are made and counted, and so much is left; or memory runs out, and none is made
abbrev pub Changes : List Held → Database → ℕ → Result (List Change × Option ℕ) Refusal → Result ℕ Refusal → List Record → ℕ → Setting → Progress → Type 0
Changes origin new session meant result records clock setting progress =
    ((result ≡ counted meant) × Represents origin new session records clock setting (with_effect_of meant progress))
    ⊎ ((result ≡ Err NoMemory) × Represents origin new session records clock setting progress)
