-- Machine: what the walk sees of the tables.
use Rattle.std.specs.Prelude.{◌≡◌, map}
use Rattle.sb_check.specs.Lent.{table_seen}
use Rattle.sb_check.specs.Names.{Scope}
use Rattle.sb_check.specs.Walk.{Schema, walk_query, walk_statement}
use Rattle.sb_syntax.specs.Tree as text

-- the same numbers, names and columns in the same order, and the same rule; what rows the tables have doesn't count
pub record SeeTheSame (a b : Schema) : Type 0 where
  pub tables : map table_seen a.tables ≡ map table_seen b.tables
  pub rule : a.rule ≡ b.rule

-- queries and statements are resolved alike where the walk sees the same
abbrev pub QueriesWalkAlike : Type 0
QueriesWalkAlike =
    (a b : Schema) → SeeTheSame a b → (q : text.Query) (scope : Scope) → walk_query a q scope ≡ walk_query b q scope

abbrev pub StatementsWalkAlike : Type 0
StatementsWalkAlike =
    (a b : Schema) → SeeTheSame a b → (c : text.Statement) → walk_statement a c ≡ walk_statement b c
