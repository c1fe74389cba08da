-- What a search has found once it was shown sources.
use Rattle.std.proofs.Common.{◌≡◌, ◌∙◌, ℕ, false, ◌||◌, ◌==◌, List, [], ◌∷◌, fold, ap, refl, sym}
use Rattle.std.proofs.lemmas.List.Folds.{list_any-append}
use Rattle.std.proofs.Math.Bool.{or-false, or_assoc}
use Rattle.sb_check.specs.Mentions.{assignment_sources, mentioned, sources_of, target}
use Rattle.sb_check.specs.declared.tree.Source.{Source}
use Rattle.sb_check.specs.declared.tree.Statement.{Statement}
use Rattle.sb_check.specs.declared.tree.Statement.TheVariants.{InsertRows, InsertQuery, Delete, Update}
use Rattle.sb_catalog.specs.declared.mentions.Search.{Search}
use Rattle.sb_catalog.specs.Uses.{is_table, has_source, statement_names}

abbrev after : Search → Source → Search
after s source = record s { is_found = s.is_found || is_table s.table source }

found-or : (s : Search) (sources : List Source) → (fold after s sources).is_found ≡ (s.is_found || has_source s.table sources)
found-or s [] = sym (or-false s.is_found)
found-or s (x ∷ rest) = found-or (after s x) rest ∙ or_assoc s.is_found (is_table s.table x) (has_source s.table rest)

-- a search that begins with nothing finds its table where it is among the sources
pub sought : (table : ℕ) (sources : List Source) (s : Search) → s ≡ fold after (record { table = table; is_found = false }) sources → s.is_found ≡ has_source table sources
sought table sources s e = ap (λ (x : Search). x.is_found) e ∙ found-or (record { table = table; is_found = false }) sources

-- a statement names a table that is its target or among its sources
pub named_by : (table : ℕ) (s : Statement) → ((target s == table) || has_source table (mentioned s)) ≡ statement_names table s
named_by table (InsertRows t rows) = or-false (t == table)
named_by table (InsertQuery t q) = refl
named_by table (Delete t c) = refl
named_by table (Update t assignments c) = ap (λ b. (t == table) || b) (list_any-append (is_table table) (assignment_sources assignments) (sources_of c))
