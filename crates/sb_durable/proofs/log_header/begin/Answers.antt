use Rattle.std.proofs.Common.{[], ◌∷◌, List, ℕ, refl, sym, ◌∙◌, subst, inl}
use Rattle.std.proofs.lemmas.Result.{on_ok_weaker, IfErr-weaker}
use Rattle.sb_durable.specs.Blocks.{IsBeforeOrAfter}
use Rattle.sb_durable.specs.Log.{HasAll}
use Rattle.sb_durable.proofs.Crash.{left_now}
use Rattle.sb_durable.proofs.Pieces.{no_none, no_some}
use Rattle.sb_durable.proofs.log_header.begin.Goals as goal

-- a head is there
pub returns-in-Ok-Some-clause-found : goal.returns-in-Ok-Some-clause-found
returns-in-Ok-Some-clause-found g c =
    on_ok_weaker c.compare.result (λ same clean first others has.
    let reads = c.in-Ok-Some.ensures.found clean [] (first ∷ others) has refl in
    sym reads.0 ∙ sym c.deref.ensures.value ∙ same ∙ c.deref-in-Ok-Some.ensures.value ∙ c.in-Ok.ensures) c.compare.ensures.same

pub returns-in-Ok-Some-clause-kept : goal.returns-in-Ok-Some-clause-kept
returns-in-Ok-Some-clause-kept g c clean first others has = c.read.ensures.same (first ∷ others) has

pub returns-in-Ok-Some-clause-other : goal.returns-in-Ok-Some-clause-other
returns-in-Ok-Some-clause-other g c =
    IfErr-weaker c.compare.result _ _ (λ e names clean other others has.
    let reads = c.in-Ok-Some.ensures.found clean [] (_ ∷ others) has refl in
    names other c.args.head (c.deref.ensures.value ∙ reads.0) (c.deref-in-Ok-Some.ensures.value ∙ c.in-Ok.ensures)) c.compare.ensures.other

pub returns-in-Ok-Some-clause-begun : goal.returns-in-Ok-Some-clause-begun
returns-in-Ok-Some-clause-begun g c =
    on_ok_weaker c.compare.result (λ same clean has. absurd (no_some c.read.new.content.items _ _ (c.in-Ok-Some.ensures.found clean [] [] has refl) c.in-Ok-Some.field-0-is)) c.compare.ensures.same

pub returns-in-Ok-Some-clause-any_moment : goal.returns-in-Ok-Some-clause-any_moment
returns-in-Ok-Some-clause-any_moment g c has file left = inl (left_now _ _ _ [] (c.read.ensures.same [] has) file left)

-- none is there, and ours is written
pub returns-in-Ok-append-clause-found : goal.returns-in-Ok-append-clause-found
returns-in-Ok-append-clause-found g c clean first others has =
    absurd (no_none first others _ _ (c.in-Ok-None.ensures.found (c.append.ensures.clean clean) [] (first ∷ others) has refl) c.in-Ok-None.field-0-is)

pub returns-in-Ok-append-clause-kept : goal.returns-in-Ok-append-clause-kept
returns-in-Ok-append-clause-kept g c clean first others has =
    absurd (no_none first others _ _ (c.in-Ok-None.ensures.found (c.append.ensures.clean clean) [] (first ∷ others) has refl) c.in-Ok-None.field-0-is)

pub returns-in-Ok-append-clause-begun : goal.returns-in-Ok-append-clause-begun
returns-in-Ok-append-clause-begun g c clean has =
    let disk = g.D.Disk in
    subst (λ (h : List ℕ). HasAll disk.seen disk.may_leave c.append.new.self (h ∷ [])) (c.deref-in-Ok-None.ensures.value ∙ c.in-Ok.ensures) (c.in-Ok-append.ensures.ok [] (c.read.ensures.same [] has))

pub returns-in-Ok-None-clause-kept : goal.returns-in-Ok-None-clause-kept
returns-in-Ok-None-clause-kept g c clean first others has =
    absurd (no_none first others _ _ (c.in-Ok-None.ensures.found (c.append.ensures.clean clean) [] (first ∷ others) has refl) c.in-Ok-None.field-0-is)

-- nothing could be read
pub returns-clause-kept : goal.returns-clause-kept
returns-clause-kept g c clean first others has = c.read.ensures.same (first ∷ others) has

pub returns-clause-any_moment : goal.returns-clause-any_moment
returns-clause-any_moment g c has file left = inl (left_now _ _ _ [] (c.read.ensures.same [] has) file left)

pub returns-in_default-clause-any_moment : goal.returns-in_default-clause-any_moment
returns-in_default-clause-any_moment g c has file left = inl (left_now _ _ _ [] has file left)

-- while the head is written
pub returns-in-Ok-append-clause-any_moment : goal.returns-in-Ok-append-clause-any_moment
returns-in-Ok-append-clause-any_moment g c has file left =
    subst (λ (h : List ℕ). IsBeforeOrAfter [] h file) (c.deref-in-Ok-None.ensures.value ∙ c.in-Ok.ensures) (c.append.ensures.any_moment [] (c.read.ensures.same [] has) file left)

pub returns-in-Ok-None-clause-any_moment : goal.returns-in-Ok-None-clause-any_moment
returns-in-Ok-None-clause-any_moment g c has file left =
    subst (λ (h : List ℕ). IsBeforeOrAfter [] h file) (c.deref-in-Ok-None.ensures.value ∙ c.in-Ok.ensures) (c.append.ensures.any_moment [] (c.read.ensures.same [] has) file left)
