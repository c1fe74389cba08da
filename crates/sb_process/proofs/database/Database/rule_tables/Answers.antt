use Rattle.std.proofs.Common.{◌∙◌, ℕ, sym, ap}
use Rattle.sb_value.specs.declared.id.Who.{Who}
use Rattle.sb_value.specs.NetEffect.{transition_tables}
use Rattle.sb_rawlog.specs.Sessions.{changes_since}
use Rattle.sb_process.specs.Represents.{who_in}
use Rattle.sb_process.proofs.Choosing.{tables-taken, taken-ok}
use Rattle.sb_process.proofs.database.Database.rule_tables.Goals as goal

pub returns : goal.returns
returns g c = λ origin setting progress r.
    let d = c.args.self.now in
    let rule = c.args.chosen.now.rule.now in
    let records = g.L.ChangeLog.records c.args.log.now in
    taken-ok c.transition_tables.result _ _
    (ap (λ (w : Who). transition_tables rule.triggers rule.table (changes_since w c.mark-since.result records)) c.who-who.ensures
    ∙ ap (λ (t : ℕ). transition_tables rule.triggers rule.table (changes_since (who_in d c.args.chosen.now.session) t records)) c.mark-since.ensures
    ∙ sym (tables-taken origin d c.args.chosen.now.session records (g.L.ChangeLog.clock c.args.log.now) setting progress r c.now-now.ensures.marks rule)) c.transition_tables.ensures
