use Rattle.std.proofs.Common.{◌∙◌, ◌<◌, ◌+◌, ◌*◌, ◌++◌, ◌∷◌, [], map, length, ap, sym, arith}
use Rattle.sb_wire.specs.Seen.{addressed_seen}
use Rattle.sb_replay.specs.Scripts.{commands_at}
use Rattle.sb_replay.proofs.Commands.{added, one_more, row_read, set_other, set_same}
use Rattle.sb_replay.proofs.script.RankedCommands.add.Goals as goal

pub returns-clause-ok : goal.returns-clause-ok
returns-clause-ok c =
    let rows = c.self.inside.rows.items in
    let a = c.args.addressed in
    let at = 8 * a.tenant + a.session in
    let count = c.self.invariant in
    let few : a.tenant < c.self.inside.tenants = omega (arith, c.requires.0, ap (λ s. s.tenants) c.self.view_is) in
    let small = c.requires.1 in
    let within : at < length rows = omega (arith, count, few, small) in
    let own = c.in_ok-command.command in
    added _ _ (addressed_seen a) small
    (set_same rows at c.push.new.self within
    ∙ ap (map (λ v. v.items)) c.in_ok-push.ensures.items
    ∙ one_more c.index_mut.result.now.items own
    ∙ ap (λ l. map (λ v. v.items) c.index_mut.result.now.items ++ l ∷ []) c.in_ok-command.ensures.items
    ∙ ap (λ l. l ++ a.command.now ∷ []) (sym (row_read rows at c.index_mut.result.now within c.index_mut.ensures.value) ∙ ap (λ s. commands_at s.rows at) c.self.view_is))
    (λ k other. set_other rows at c.push.new.self k other ∙ ap (λ s. commands_at s.rows k) c.self.view_is)
