use Rattle.std.proofs.Common.{◌≡◌, ◌++◌, length, length-append, ap, ◌∙◌, arith, rules}
use Rattle.std.proofs.lemmas.Grind.{common_steps}
use Rattle.crossbeam_deque.specs.Handles.{worker_view, view}
use Rattle.sb_workers.specs.declared.rule.Known.{Known}
use Rattle.sb_workers.specs.Results.{IsDone}
use Rattle.sb_workers.proofs.Steps.{merges, learns}
use Rattle.sb_workers.proofs.Zips.{zip_joins, zip_length}
use Rattle.sb_workers.proofs.helper.take_one.Goals as goal

pub absorb-requires-clause-rule : goal.absorb-requires-clause-rule
absorb-requires-clause-rule g c = merges _ _ _ _ c.requires.caller.0.1

pub len_as-requires : goal.len_as-requires
len_as-requires g c = learns _ _

pub unreachable-requires : goal.unreachable-requires
unreachable-requires g c =
    let does = g.W.Work.does in
    let mine = (worker_view c.args.caller.owner).given in
    let theirs = (view c.args.helper.seat).given in
    let a = zip_length (IsDone does) mine c.args.caller.done.items c.requires.caller.1 in
    let b = zip_length (IsDone does) theirs c.args.helper.done.items c.requires.helper.1 in
    let e = c.absorb.ensures.rule in
    let given : length (worker_view c.absorb.new.self).given ≡ length (mine ++ theirs) = ap (λ (h : Known _). length h.given) e in
    let pushed : length (worker_view c.absorb.new.self).pushed ≡ length (worker_view c.args.caller.owner).pushed = ap (λ (h : Known _). length h.pushed) e in
    let few = c.len_as.ensures.rule.2 (ap (λ (h : Known _). h.owns) e ∙ c.requires.caller.0.0) in
    let l = length-append mine theirs in
    let most = c.requires.caller.2 in
    grind (arith, common_steps)

pub returns-clause-caller : goal.returns-clause-caller
returns-clause-caller g c =
    let e = c.len_as.ensures.same.2 ∙ c.absorb.ensures.rule in
    let parts = ap (λ (h : Known _). h.parts) e in
    let some_part = c.requires.caller.0.1 in (
      (ap (λ (h : Known _). h.owns) e ∙ c.requires.caller.0.0, omega (arith, parts, some_part), search rules),
      zip_joins (IsDone g.W.Work.does) (worker_view c.args.caller.owner).given (view c.args.helper.seat).given (worker_view c.len_as.new.self).given c.args.caller.done.items c.args.helper.done.items c.append.new.self.items
          (ap (λ (h : Known _). h.given) e) c.in-Ok.ensures.items c.requires.caller.1 c.requires.helper.1,
      search rules,
    )
