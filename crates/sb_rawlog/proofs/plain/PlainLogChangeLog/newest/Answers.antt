use Rattle.std.proofs.Common.{length, sym, ap, ◌∙◌, refl}
use Rattle.sb_rawlog.specs.Changes.{is_by}
use Rattle.sb_rawlog.specs.Records.{walk}
use Rattle.sb_rawlog.proofs.Rises.{read}
use Rattle.sb_rawlog.proofs.Spots.{newest_found, from_all, none_from_all}
use Rattle.sb_rawlog.proofs.plain.PlainLogChangeLog.newest.Goals as goal

pub returns : goal.returns
returns c =
    let rs = c.args.self.now.items.items in
    let i = c.in-Some.i in
    let f = from_all (is_by c.args.who) 0 c.deref.result.now rs c.len.result i c.deref.ensures.value (c.len.ensures ∙ sym c.deref.ensures.len ∙ ap length c.deref.ensures.value) c.in-Some.ensures in
    newest_found c.args.who rs (walk (is_by c.args.who) 0 rs) i c.index.result.now f refl (read rs i c.index.result.now c.index.ensures f.within)

pub returns-in_default : goal.returns-in_default
returns-in_default c = none_from_all (is_by c.args.who) 0 c.deref.result.now c.args.self.now.items.items c.len.result c.deref.ensures.value (c.len.ensures ∙ sym c.deref.ensures.len ∙ ap length c.deref.ensures.value) c.in_default.ensures
