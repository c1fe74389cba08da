-- A fresh cell hosts the tenants below its number, in their opening states.
use Rattle.std.proofs.Common.{◌≡◌, ◌∙◌, sym, ap, subst, lt-ltb, ◌==◌, ◌%◌, ◌&&◌, nat_lt, true, Bool, List, ℕ, Option, Some, None, eq-eqb, arith}
use Rattle.std.specs.Io.KnownBytes.{Appends}
use Rattle.std.specs.Prelude.{IfSome, OnOk, Result, Ok, Err}
use Rattle.sb_tenant.specs.declared.bound.Bound.{Bound}
use Rattle.sb_tenant.specs.State.{State, opening}
use Rattle.sb_tenant.specs.Trail.{state_of}
use Rattle.sb_cell.specs.Tenants.{Cell, IsNew, hosts}
use Rattle.sb_wire.specs.Lines.{pieces_of}
use Rattle.sb_wire.specs.Output.{IsOutput, output}
use Rattle.sb_wire.specs.Apart.{lines_alone, state_alone}
use Rattle.sb_wire.specs.Stream.{states, AnswersInput, AnswersFresh, SameLinesAreToldTheSame}
use Rattle.sb_wire.proofs.Apart.{runs-apart}

module _ (tenants : ℕ) (bound : Bound) (c : Cell) (new : IsNew 0 1 tenants bound c) where
  below : hosts c ≡ (λ t. nat_lt t tenants)
  below = λ i t. (new.hosted t ∙ ap (λ (b : Bool). b && nat_lt t tenants) (first t)) i
    where
      first : (t : ℕ) → (t % 1 == 0) ≡ true
      first t = let none : t % 1 ≡ 0 = omega arith in eq-eqb (t % 1) 0 none

  at_start : states c ≡ (λ t. opening)
  at_start = λ i t. state_of t c.bound (new.trails t i)

  fresh-output : (input text : List ℕ) (after : Cell) → AnswersInput c input text after → IsOutput (λ t. nat_lt t tenants) bound (λ t. opening) input text (states after)
  fresh-output input text after told =
      subst (λ (h : ℕ → Bool). IsOutput h bound (λ t. opening) input text (states after)) below
      (subst (λ (k : Bound). IsOutput (hosts c) k (λ t. opening) input text (states after)) new.at_most
      (subst (λ (s : ℕ → State). IsOutput (hosts c) c.bound s input text (states after)) at_start told.answers))

  pub fresh-answers : (input text : List ℕ) (after : Cell) → AnswersInput c input text after → AnswersFresh tenants bound input text
  fresh-answers input text after told = record {
    after = states after;
    answers = fresh-output input text after told;
    exact = λ none. told.exact none ∙ (λ i. output (below i) (new.at_most i) (at_start i) input);
    apart = runs-apart (λ t. nat_lt t tenants) bound (λ t. opening) (pieces_of input) text (states after) (fresh-output input text after told);
  }

  pub fresh-ok : {T E : Type 0} (r : Result T E) (input held holds : Option (List ℕ)) (after : Cell)
      → OnOk r (IfSome input (λ bytes. (text : List ℕ) × Appends held holds text × AnswersInput c bytes text after))
      → OnOk r (IfSome input (λ bytes. (text : List ℕ) × Appends held holds text × AnswersFresh tenants bound bytes text))
  fresh-ok (Err e) input held holds after told = tt
  fresh-ok (Ok x) None held holds after told = tt
  fresh-ok (Ok x) (Some bytes) held holds after (text, appends, told) = (text, appends, fresh-answers bytes text after told)

-- two inputs with the same lines of a tenant
pub told-the-same : (bound : Bound) → SameLinesAreToldTheSame bound
told-the-same bound tenants others input text another told one two t below below_too none none_too same =
    let a = one.apart.alone t (lt-ltb t tenants below) none in
    let b = two.apart.alone t (lt-ltb t others below_too) none_too in
    (a.0 ∙ ap (lines_alone bound t opening) same ∙ sym b.0, a.1 ∙ ap (state_alone bound t opening) same ∙ sym b.1)
