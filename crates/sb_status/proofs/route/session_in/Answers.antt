use Rattle.std.proofs.Common.{rules, arith, ◌≡◌, ◌∙◌, ◌+◌, ◌<◌, ℕ, List, [], ◌∷◌, ◌++◌, ap}
use Rattle.std.proofs.lemmas.Bool.Decides.{Decides-eqb}
use Rattle.std.proofs.lemmas.Grind.{common_steps}
use Rattle.std.proofs.lemmas.Slice.Eq.{strip_suffix_is}
use Rattle.std.specs.Prelude.{codes, Some}
use Rattle.sb_status.proofs.route.session_in.Goals as goal

-- the number, the words behind it, and the digit
pub returns : goal.returns
returns c =
    let digits = c.in_ok-strip_suffix.field-0.now in
    let front = strip_suffix_is Decides-eqb c.in_ok-digit.front.now (codes "/sessions/") (Some c.in_ok-strip_suffix.field-0) c.in_ok-strip_suffix.ensures.cases in
    let digit : c.in_ok-digit.digit.now ≡ c.from.result + 48 = search rules in
    let below : c.from.result < 10 = first_of (search rules, grind (arith, common_steps)) in (
      digits,
      c.in_ok-tenant.ensures,
      c.in_ok-digit.ensures.cases.0 ∙ ap (λ (l : List ℕ). l ++ c.in_ok-digit.digit.now ∷ []) front ∙ ap (λ (d : ℕ). (digits ++ codes "/sessions/") ++ d ∷ []) digit,
      below,
    )
