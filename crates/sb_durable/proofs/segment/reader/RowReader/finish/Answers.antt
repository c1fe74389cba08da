use Rattle.std.proofs.Common.{List, ℕ, IsTrue, subst, sym, ◌∙◌}
use Rattle.sb_durable.specs.Head.{Head, IsLeft}
use Rattle.sb_durable.specs.Segment.{head_of}
use Rattle.sb_durable.proofs.segment.reader.RowReader.finish.Goals as goal

-- before anything is written
pub returns-in-Ok-true-clause-any_moment_err : goal.returns-in-Ok-true-clause-any_moment_err
returns-in-Ok-true-clause-any_moment_err g c clean only settings older contents has was file left =
    let before = c.ends_within.ensures.seen.1 file (subst (λ d. g.D.Disk.may_leave d file) c.close.ensures left) in
    subst (λ (f : List ℕ). IsLeft (head_of c.args.self.last) contents f) (sym (only file before)) was

pub returns-in-Err-clause-any_moment_err : goal.returns-in-Err-clause-any_moment_err
returns-in-Err-clause-any_moment_err g c clean only settings older contents has was file left =
    let before = c.ends_within.ensures.seen.1 file (subst (λ d. g.D.Disk.may_leave d file) c.close-in-Err.ensures left) in
    subst (λ (f : List ℕ). IsLeft (head_of c.args.self.last) contents f) (sym (only file before)) was

pub returns-in-Ok-clause-ok : goal.returns-in-Ok-clause-ok
returns-in-Ok-clause-ok g c clean settings older contents has = c.in-Ok.ensures.ok clean contents (c.ends_within.ensures.knows contents has.knows)

-- while its end is mended
pub returns-in-Ok-clause-any_moment : goal.returns-in-Ok-clause-any_moment
returns-in-Ok-clause-any_moment g c clean only settings older contents has was file left =
    let head = c.ends_within.ensures.same.0 in
    let seen = c.ends_within.ensures.seen in
    subst (λ (h : Head). IsLeft h contents file) head (
    c.settle.ensures.left clean (λ f l. only f (seen.1 f l) ∙ sym seen.0) contents (c.ends_within.ensures.knows contents has.knows)
    (subst (λ (f : List ℕ). IsLeft (head_of c.ends_within.new.self) contents f) (sym seen.0) (subst (λ (h : Head). IsLeft h contents (g.D.Disk.seen c.args.self.last.device)) (sym head) was)) file left
    )

pub returns-in-Err-settle-clause-any_moment_err : goal.returns-in-Err-settle-clause-any_moment_err
returns-in-Err-settle-clause-any_moment_err g c clean only settings older contents has was file left =
    let head = c.ends_within.ensures.same.0 in
    let seen = c.ends_within.ensures.seen in
    let same = c.close-in-Err-settle.ensures in
    subst (λ (h : Head). IsLeft h contents file) head (
    c.settle.ensures.left (subst (λ d. IsTrue (g.D.Disk.is_clean d)) same clean) (λ f l. only f (seen.1 f l) ∙ sym seen.0) contents (c.ends_within.ensures.knows contents has.knows)
    (subst (λ (f : List ℕ). IsLeft (head_of c.ends_within.new.self) contents f) (sym seen.0) (subst (λ (h : Head). IsLeft h contents (g.D.Disk.seen c.args.self.last.device)) (sym head) was))
    file (subst (λ d. g.D.Disk.may_leave d file) same left)
    )
