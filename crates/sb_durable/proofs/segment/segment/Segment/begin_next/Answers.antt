use Rattle.std.proofs.Common.{◌≡◌, ◌⊎◌, [], List, ℕ, IfOk, IfErr, IsTrue, subst}
use Rattle.sqlite_disk.specs.Disk.{Only}
use Rattle.sb_durable.specs.Head.{Head, IsUnbegun, IsLeft}
use Rattle.sb_durable.specs.Row.{next_head}
use Rattle.sb_durable.specs.Segment.{device_of, head_of}
use Rattle.sb_durable.proofs.segment.segment.Segment.begin_next.Goals as goal

-- the head that is asked for is the next one
pub returns-clause-any_moment : goal.returns-clause-any_moment
returns-clause-any_moment g c =
    let own = c.args.self.now in
    let same : (record { number = c.in-Some.number; before = own.end.chain; settings = c.as_slice.result.now }) ≡ next_head (head_of own) own.end.chain =
    λ i. record { number = c.in-Some.ensures.1 i; before = own.end.chain; settings = c.as_slice.ensures.value i } in
    subst (λ (h : Head). IfOk c.begin.result (λ segment. IsTrue (g.D.Disk.is_clean (device_of segment)) → Only (g.D.Disk.seen c.args.device) (g.D.Disk.may_leave c.args.device) → IsUnbegun (g.D.Disk.seen c.args.device)
    → (file : List ℕ) → g.D.Disk.may_leave (device_of segment) file → IsUnbegun file ⊎ IsLeft h [] file)) same c.begin.ensures.any_moment

pub returns-clause-any_moment_err : goal.returns-clause-any_moment_err
returns-clause-any_moment_err g c =
    let own = c.args.self.now in
    let same : (record { number = c.in-Some.number; before = own.end.chain; settings = c.as_slice.result.now }) ≡ next_head (head_of own) own.end.chain =
    λ i. record { number = c.in-Some.ensures.1 i; before = own.end.chain; settings = c.as_slice.ensures.value i } in
    subst (λ (h : Head). IfErr c.begin.result (λ e. IsTrue (g.D.Disk.is_clean e.1) → Only (g.D.Disk.seen c.args.device) (g.D.Disk.may_leave c.args.device) → IsUnbegun (g.D.Disk.seen c.args.device)
    → (file : List ℕ) → g.D.Disk.may_leave e.1 file → IsUnbegun file ⊎ IsLeft h [] file)) same c.begin.ensures.any_moment_err
