use Rattle.std.proofs.Common.{inl, sym, subst}
use Rattle.sb_words.specs.Asking.{LacksNumber}
use Rattle.sb_words.proofs.given.number_at.Goals as goal

pub unreachable-requires : goal.unreachable-requires
unreachable-requires c =
    let text = c.in-Some-text_at.text.now in
    c.requires text (sym c.in-Some-text_at.ensures, inl (subst (λ r. LacksNumber r text) c.in-Some.ensures.is c.in-None.ensures))
