use Rattle.std.proofs.Common.{◌++◌, List, ℕ, sym, subst}
use Rattle.std.proofs.lemmas.Result.{IfErr-weaker}
use Rattle.sb_durable.specs.Head.{IsOpened, head_bytes}
use Rattle.sb_durable.proofs.segment.beginning.read_beginning.Goals as goal

pub returns-clause-damaged : goal.returns-clause-damaged
returns-clause-damaged g c =
    IfErr-weaker c.read_head.result _ _ (λ e damaged is clean head rest tail fits same. damaged is clean head rest tail fits (subst (λ (f : List ℕ). IsOpened (head_bytes head ++ rest) (f ++ tail)) (sym c.check_mark.ensures.seen) same)) c.read_head.ensures.damaged
