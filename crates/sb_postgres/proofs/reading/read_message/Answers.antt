use Rattle.std.proofs.Common.{◌≡◌, ap, sym, subst, ◌∙◌, Ok, arith}
use Rattle.sb_postgres.specs.Messages.{said, kind_of}
use Rattle.sb_postgres.specs.Reading.{Gives, message_at}
use Rattle.sb_postgres.proofs.Bodies.{is_found, message_again}
use Rattle.sb_postgres.proofs.reading.read_message.Goals as goal

pub returns-clause-found : goal.returns-clause-found
returns-clause-found c = is_found c.args.kind c.args.body.now c.message_of.result (λ i. omega (arith, c.type_inv.body i)) c.message_of.ensures

pub returns-clause-only : goal.returns-clause-only
returns-clause-only c = λ m is k b.
    let e : message_at c.args.kind c.args.body.now ≡ Ok m = ap (λ n. message_at n c.args.body.now) (sym k) ∙ ap (message_at (kind_of m)) (sym b) ∙ message_again m is in
    subst (λ f. Gives said c.message_of.result f) e c.message_of.ensures
