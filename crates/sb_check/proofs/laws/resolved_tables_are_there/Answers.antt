use Rattle.std.proofs.Common.{[]}
use Rattle.sb_check.proofs.Presence.{query_there, statement_there, parts_there, alteration_there}
use Rattle.sb_check.proofs.laws.resolved_tables_are_there.Goals as goal

pub returns : goal.returns
returns c = record { queries = λ names q. query_there names q []; statements = statement_there; rules = parts_there; alterations = alteration_there }
