use Rattle.std.proofs.Common.{◌≡◌, ◌++◌, [], drop, map}
use Rattle.std.specs.Prelude.{Ok}
use Rattle.sb_check.specs.Names.{and_then}
use Rattle.sb_check.specs.Sources.{seen_sources}
use Rattle.sb_check.proofs.source.see.Given as goal

-- what is seen so far stands before what the sources that are left give
abbrev pub invariant-loop-reference : goal.invariant-loop-reference
invariant-loop-reference g l =
    seen_sources (g.S.Schema.names l.schema) [] l.references
    ≡ and_then (seen_sources (g.S.Schema.names l.schema) (map (λ v. v.name) l.seen.1) (drop l.reference-index l.references)) (λ p. Ok (l.seen.0 ++ p.0, l.seen.1 ++ p.1))
