use Rattle.std.proofs.Common.{◌≡◌, ℕ, ◌/◌, ◌%◌, ◌<◌, List, length, sym, ◌∙◌, subst, arith}
use Rattle.sb_tenant.specs.declared.reply.Entry.{Entry}
use Rattle.sb_desk.specs.Receipts.{receipts_of}
use Rattle.sb_host.specs.Comparing.{Compares}
use Rattle.sb_host.specs.Finish.{row_at}
use Rattle.sb_host.specs.Rows.{row_read}
use Rattle.sb_host.proofs.comparing.check_row.Goals as goal

pub returns-clause-found : goal.returns-clause-found
returns-clause-found c =
    let trails = c.args.trails.now in
    let at = c.args.at in
    let below : at / 8 < length trails = (let there = c.requires.there in let all = c.requires.rows in omega arith) in
    let entries : c.as_slice-trail.result.now ≡ row_at trails (at / 8) = c.as_slice-trail.ensures.value ∙ sym (row_read trails (at / 8) c.index-trails-at.result below c.index-trails-at.is) in
    let session : c.new-session.result ≡ at % 8 = c.new-session.ensures in
    subst (λ (p : ℕ × List Entry). Compares (row_at c.args.rows.now.items at) (receipts_of p.0 1 p.1) c.check_at.result) (λ i. (session i, entries i)) c.check_at.ensures.found
