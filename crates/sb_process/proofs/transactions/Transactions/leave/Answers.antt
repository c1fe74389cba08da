-- the rule was tested up to now where there is memory for it, and else up to what it was
use Rattle.std.proofs.Common.{◌∙◌, inl, inr, ◌&&◌, ◌==◌, if◌then◌else◌, [], slice_index_or, refl}
use Rattle.sb_value.specs.Flags.{flag_at}
use Rattle.sb_process.specs.Transactions.{tested_of}
use Rattle.sb_process.proofs.SetTimes.{same_there}
use Rattle.sb_process.proofs.transactions.Transactions.leave.Goals as goal

pub returns-then-is_ok-clause-tested : goal.returns-then-is_ok-clause-tested
returns-then-is_ok-clause-tested c = (
  c.args.time,
  inl refl,
  λ s r.
      c.set.ensures.tested s r
      ∙ (λ i. if (s == c.args.session) && (r == c.args.rule) then c.args.time else (if flag_at (slice_index_or c.self.inside.marked s []) r then c.grow.ensures.tested s r i else 0))
      ∙ (λ i. if (s == c.args.session) && (r == c.args.rule) then c.args.time else tested_of (c.self.view_is i) s r),
)

pub returns-else-is_ok-clause-tested : goal.returns-else-is_ok-clause-tested
returns-else-is_ok-clause-tested c = (
  tested_of c.args.self.now c.args.session c.args.rule,
  inr refl,
  λ s r.
      (λ i. if flag_at (slice_index_or c.self.inside.marked s []) r then c.grow.ensures.tested s r i else 0)
      ∙ (λ i. tested_of (c.self.view_is i) s r)
      ∙ same_there (λ x y. tested_of c.args.self.now x y) c.args.session c.args.rule s r,
)
