use Rattle.std.proofs.Common.{refl, sym, subst, ap, ◌∙◌, List, ℕ, length, length-append, arith}
use Rattle.sb_durable.specs.Head.{IsLeft}
use Rattle.sb_durable.specs.Segment.{IsAtRest, head_of}
use Rattle.sb_durable.specs.SegmentEnds.{EndsAt}
use Rattle.sb_durable.proofs.SegmentContents.{front_of, front_is, file_is, length-front}
use Rattle.sb_durable.proofs.Mending.{rest_stands}
use Rattle.sb_durable.proofs.segment.segment.Segment.settle.Goals as goal

pub returns-then-self-len-clause-damaged : goal.returns-then-self-len-clause-damaged
returns-then-self-len-clause-damaged g c is clean contents knows =
    let head = head_of c.args.self.now in
    let file = g.D.Disk.seen c.args.self.now.device in
    let front = front_of head contents file knows.stands in
    absurd (omega (arith, c.if-self-len.true, c.in_ok-len.ensures.len clean, knows.end.at, ap length (file_is head contents file knows.stands), length-append front knows.stands.behind.end, length-front head contents front (front_is head contents file knows.stands)))

pub returns-clause-ok : goal.returns-clause-ok
returns-clause-ok g c clean contents knows =
    let written = c.sync.ensures.clean clean in
    let head = head_of c.args.self.now in
    let ends : EndsAt head contents c.args.self.now.end.at c.in_ok-len.len (g.D.Disk.seen c.args.self.now.device) =
    record { stands = knows.stands; at_end = knows.end.at; size = c.in_ok-len.ensures.len (c.leave_gate.ensures.clean written) } in
    let rests = c.in_ok-leave_gate.ensures.at_rest written head contents (subst (λ (f : List ℕ). EndsAt head contents c.args.self.now.end.at c.in_ok-len.len f) (sym c.len.ensures.seen) ends) in
    let file = subst (λ (f : List ℕ). IsAtRest head contents f) (sym c.sync.ensures.seen) rests in
    record {
      knows = record { stands = rest_stands head contents _ knows.stands.fits knows.stands.behind.each file; own = knows.own; end = knows.end };
      file = file;
      durable = λ d left. c.in_ok-sync.ensures.durable d left ∙ sym c.sync.ensures.seen;
      settled = refl;
    }

-- where a crash left the file, before its end is mended
pub returns-then-self-clause-left : goal.returns-then-self-clause-left
returns-then-self-clause-left g c clean only contents knows was file left =
    subst (λ (f : List ℕ). IsLeft (head_of c.args.self.now) contents f) (sym (only file left)) was

pub returns-in_err-len-clause-left : goal.returns-in_err-len-clause-left
returns-in_err-len-clause-left g c clean only contents knows was file left =
    subst (λ (f : List ℕ). IsLeft (head_of c.args.self.now) contents f) (sym (only file (c.len.ensures.crash file left))) was

pub returns-then-self-len-clause-left : goal.returns-then-self-len-clause-left
returns-then-self-len-clause-left g c clean only contents knows was file left =
    subst (λ (f : List ℕ). IsLeft (head_of c.args.self.now) contents f) (sym (only file (c.len.ensures.crash file left))) was

-- and while it is
pub returns-in_err-leave_gate-clause-left : goal.returns-in_err-leave_gate-clause-left
returns-in_err-leave_gate-clause-left g c clean only contents knows was file left =
    let head = head_of c.args.self.now in
    let ends : EndsAt head contents c.args.self.now.end.at c.in_ok-len.len (g.D.Disk.seen c.args.self.now.device) =
    record { stands = knows.stands; at_end = knows.end.at; size = c.in_ok-len.ensures.len (c.leave_gate.ensures.clean clean) } in
    c.leave_gate.ensures.left clean (λ f l. only f (c.len.ensures.crash f l) ∙ sym c.len.ensures.seen) head contents
    (subst (λ (f : List ℕ). EndsAt head contents c.args.self.now.end.at c.in_ok-len.len f) (sym c.len.ensures.seen) ends)
    (subst (λ (f : List ℕ). IsLeft head contents f) (sym c.len.ensures.seen) was) file left

pub returns-in_err-sync-clause-left : goal.returns-in_err-sync-clause-left
returns-in_err-sync-clause-left g c clean only contents knows was file left =
    let head = head_of c.args.self.now in
    let written = c.sync.ensures.clean clean in
    let ends : EndsAt head contents c.args.self.now.end.at c.in_ok-len.len (g.D.Disk.seen c.args.self.now.device) =
    record { stands = knows.stands; at_end = knows.end.at; size = c.in_ok-len.ensures.len (c.leave_gate.ensures.clean written) } in
    c.leave_gate.ensures.left written (λ f l. only f (c.len.ensures.crash f l) ∙ sym c.len.ensures.seen) head contents
    (subst (λ (f : List ℕ). EndsAt head contents c.args.self.now.end.at c.in_ok-len.len f) (sym c.len.ensures.seen) ends)
    (subst (λ (f : List ℕ). IsLeft head contents f) (sym c.len.ensures.seen) was) file (c.sync.ensures.crash file left)

pub returns-clause-left : goal.returns-clause-left
returns-clause-left g c clean only contents knows was file left =
    let head = head_of c.args.self.now in
    let written = c.sync.ensures.clean clean in
    let ends : EndsAt head contents c.args.self.now.end.at c.in_ok-len.len (g.D.Disk.seen c.args.self.now.device) =
    record { stands = knows.stands; at_end = knows.end.at; size = c.in_ok-len.ensures.len (c.leave_gate.ensures.clean written) } in
    c.leave_gate.ensures.left written (λ f l. only f (c.len.ensures.crash f l) ∙ sym c.len.ensures.seen) head contents
    (subst (λ (f : List ℕ). EndsAt head contents c.args.self.now.end.at c.in_ok-len.len f) (sym c.len.ensures.seen) ends)
    (subst (λ (f : List ℕ). IsLeft head contents f) (sym c.len.ensures.seen) was) file (c.sync.ensures.crash file left)
