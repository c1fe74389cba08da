use Rattle.std.proofs.Common.{◌∙◌, ◌∷◌, ◌++◌, [], List, None, Option, ap}
use Rattle.std.proofs.lemmas.List.{replicate-append-replicate}
use Rattle.sb_status.specs.declared.statistics_cache.TakenNumbers.{TakenNumbers}
use Rattle.sb_status.proofs.statistics_cache.StatisticsCache.new.Goals as goal

-- nothing of one more
pub loop-place-preserved : goal.loop-place-preserved
loop-place-preserved c =
    c.in_ok-push.ensures.items ∙ ap (λ (l : List (Option TakenNumbers)). l ++ None ∷ []) c.loop-place.invariant ∙ replicate-append-replicate c.loop-place._place 1 None
