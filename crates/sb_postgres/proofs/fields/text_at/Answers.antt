use Rattle.std.proofs.Common.{ℕ, List, Ok, take, sym, ap, ◌∙◌}
use Rattle.sb_postgres.proofs.Texts.{behind, text_found, text_missing}
use Rattle.sb_postgres.proofs.fields.text_at.Goals as goal

pub returns : goal.returns
returns c =
    let h = text_found c.args.bytes.now c.in-Some.end (sym c.in-Some.ensures) in
    rw (c.split_at.ensures.front, c.split_at-2.ensures.back, c.split_at.ensures.back)
    (h ∙ ap (λ (r : List ℕ). Ok (take c.in-Some.end c.args.bytes.now, r)) (sym (behind c.in-Some.end c.args.bytes.now)))

pub returns-in_default : goal.returns-in_default
returns-in_default c = text_missing c.args.bytes.now (sym c.zero_in.ensures ∙ c.in_default.is)
