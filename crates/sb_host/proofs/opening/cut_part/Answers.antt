use Rattle.std.proofs.Common.{ℕ, List, [], ap, ◌∙◌}
use Rattle.sb_desk.specs.Seats.{block_of, past_block}
use Rattle.sb_host.proofs.Dealing.{block_left, past_left}
use Rattle.sb_host.proofs.opening.cut_part.Goals as goal

pub returns-clause-all : goal.returns-clause-all
returns-clause-all g c = c.split_block-block.ensures.1 ∙ ap (λ (m : List ℕ × List (ℕ × Unit {0})). (past_block m.0, m.1)) c.requires.all ∙ ap (λ (l : List ℕ). (l, [])) (past_left g.row.F c.requires.cell)

pub returns-clause-block : goal.returns-clause-block
returns-clause-block g c = c.split_block-block.ensures.3 ∙ ap (λ (m : List ℕ × List (ℕ × Unit {0})). (block_of m.0, [])) c.requires.all ∙ ap (λ (l : List ℕ). (l, [])) (block_left g.row.F c.requires.cell)
