use Rattle.std.proofs.Common.{◌++◌, drop, length, replicate, subst, sym, List, ℕ}
use Rattle.sb_value.specs.Name.{IsPadded}
use Rattle.sb_value.proofs.NameLaws.{IsPadded-copy}
use Rattle.sb_value.proofs.name.Name.new.Goals as goal

pub invariant_of-result : goal.invariant_of-result
invariant_of-result c =
    subst (λ (s : List ℕ). IsPadded (s ++ drop (length c.args.bytes.now) (replicate 32 0)) (length c.args.bytes.now)) (sym c.copy_from_slice.ensures.after)
    (IsPadded-copy c.args.bytes.now c.requires.not_empty c.requires.short)
