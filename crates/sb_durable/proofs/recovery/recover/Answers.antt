use Rattle.std.proofs.Common.{sym, subst, ◌∙◌}
use Rattle.sb_durable.specs.Blocks.{IsLeft, Stands}
use Rattle.sb_durable.proofs.Repair.{ends_there}
use Rattle.sb_durable.proofs.recovery.recover.Goals as goal

pub returns-in-Err-clause-damaged : goal.returns-in-Err-clause-damaged
returns-in-Err-clause-damaged g c is clean contents stands =
    c.in-Err.ensures.damaged is clean contents (subst (λ f. Stands contents f) (sym c.len.ensures.seen) stands)

pub returns-in-Err-clause-behind : goal.returns-in-Err-clause-behind
returns-in-Err-clause-behind g c count is clean contents stands = absurd (c.in-Err.ensures.kind count is)

-- nothing is written yet
pub returns-in_err-len-clause-left : goal.returns-in_err-len-clause-left
returns-in_err-len-clause-left g c clean only contents left file may = subst (λ f. IsLeft contents f) (sym (only file (c.len.ensures.crash file may))) left

pub returns-in-Err-clause-left : goal.returns-in-Err-clause-left
returns-in-Err-clause-left g c clean only contents left file may = subst (λ f. IsLeft contents f) (sym (only file (c.len.ensures.crash file (c.find_end.ensures.crash file may)))) left

pub returns-in_err-may_go-clause-left : goal.returns-in_err-may_go-clause-left
returns-in_err-may_go-clause-left g c clean only contents left file may = subst (λ f. IsLeft contents f) (sym (only file (c.len.ensures.crash file (c.find_end.ensures.crash file (c.is_remnant.ensures.crash file may))))) left

-- while what is behind the gate is cut off
pub returns-in_err-leave_gate-clause-any_moment : goal.returns-in_err-leave_gate-clause-any_moment
returns-in_err-leave_gate-clause-any_moment g c clean only contents stands file may =
    let disk = g.D.Disk in
    let gone = clean in
    let before = c.is_remnant.ensures.clean (c.leave_gate.ensures.clean gone) in
    let same = c.is_remnant.ensures.seen ∙ c.find_end.ensures.seen ∙ c.len.ensures.seen in
    let here = c.in-Ok.ensures.found before contents (subst (λ f. Stands contents f) (sym c.len.ensures.seen) stands) in
    (c.leave_gate.ensures.any_moment gone (λ f l. only f (c.len.ensures.crash f (c.find_end.ensures.crash f (c.is_remnant.ensures.crash f l))) ∙ sym same) contents
    (ends_there contents _ _ _ _ same stands here (c.in_ok-len.ensures.len (c.find_end.ensures.clean before))) file may).stands

pub returns-in_err-sync-clause-any_moment : goal.returns-in_err-sync-clause-any_moment
returns-in_err-sync-clause-any_moment g c clean only contents stands file may =
    let disk = g.D.Disk in
    let gone = c.sync.ensures.clean clean in
    let before = c.is_remnant.ensures.clean (c.leave_gate.ensures.clean gone) in
    let same = c.is_remnant.ensures.seen ∙ c.find_end.ensures.seen ∙ c.len.ensures.seen in
    let here = c.in-Ok.ensures.found before contents (subst (λ f. Stands contents f) (sym c.len.ensures.seen) stands) in
    (c.leave_gate.ensures.any_moment gone (λ f l. only f (c.len.ensures.crash f (c.find_end.ensures.crash f (c.is_remnant.ensures.crash f l))) ∙ sym same) contents
    (ends_there contents _ _ _ _ same stands here (c.in_ok-len.ensures.len (c.find_end.ensures.clean before))) file (c.sync.ensures.crash file may)).stands

pub returns-in_err-leave_gate-clause-left : goal.returns-in_err-leave_gate-clause-left
returns-in_err-leave_gate-clause-left g c clean only contents left file may =
    let disk = g.D.Disk in
    let gone = clean in
    let before = c.is_remnant.ensures.clean (c.leave_gate.ensures.clean gone) in
    let same = c.is_remnant.ensures.seen ∙ c.find_end.ensures.seen ∙ c.len.ensures.seen in
    let here = c.in-Ok.ensures.found before contents (subst (λ f. Stands contents f) (sym c.len.ensures.seen) left.stands) in
    c.leave_gate.ensures.any_moment gone (λ f l. only f (c.len.ensures.crash f (c.find_end.ensures.crash f (c.is_remnant.ensures.crash f l))) ∙ sym same) contents
    (ends_there contents _ _ _ _ same left.stands here (c.in_ok-len.ensures.len (c.find_end.ensures.clean before))) file may

pub returns-in_err-sync-clause-left : goal.returns-in_err-sync-clause-left
returns-in_err-sync-clause-left g c clean only contents left file may =
    let disk = g.D.Disk in
    let gone = c.sync.ensures.clean clean in
    let before = c.is_remnant.ensures.clean (c.leave_gate.ensures.clean gone) in
    let same = c.is_remnant.ensures.seen ∙ c.find_end.ensures.seen ∙ c.len.ensures.seen in
    let here = c.in-Ok.ensures.found before contents (subst (λ f. Stands contents f) (sym c.len.ensures.seen) left.stands) in
    c.leave_gate.ensures.any_moment gone (λ f l. only f (c.len.ensures.crash f (c.find_end.ensures.crash f (c.is_remnant.ensures.crash f l))) ∙ sym same) contents
    (ends_there contents _ _ _ _ same left.stands here (c.in_ok-len.ensures.len (c.find_end.ensures.clean before))) file (c.sync.ensures.crash file may)

pub returns-clause-left : goal.returns-clause-left
returns-clause-left g c clean only contents left file may =
    let disk = g.D.Disk in
    let gone = c.sync.ensures.clean clean in
    let before = c.is_remnant.ensures.clean (c.leave_gate.ensures.clean gone) in
    let same = c.is_remnant.ensures.seen ∙ c.find_end.ensures.seen ∙ c.len.ensures.seen in
    let here = c.in-Ok.ensures.found before contents (subst (λ f. Stands contents f) (sym c.len.ensures.seen) left.stands) in
    c.leave_gate.ensures.any_moment gone (λ f l. only f (c.len.ensures.crash f (c.find_end.ensures.crash f (c.is_remnant.ensures.crash f l))) ∙ sym same) contents
    (ends_there contents _ _ _ _ same left.stands here (c.in_ok-len.ensures.len (c.find_end.ensures.clean before))) file (c.sync.ensures.crash file may)
