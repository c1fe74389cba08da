use Rattle.std.proofs.Common.{◌≡◌, ◌+◌, true, cond, List, [], ◌∷◌, ◌++◌, is_ok, sym, ap, ◌∙◌, subst, arith}
use Rattle.sb_rawlog.specs.Changes.{author}
use Rattle.sb_rawlog.specs.Records.{Record, Rising}
use Rattle.sb_rawlog.specs.Sessions.{changes_by, OthersStay}
use Rattle.sb_rawlog.proofs.Rises.{rising-push}
use Rattle.sb_rawlog.proofs.Sessions.{own_pushed, others_pushed}
use Rattle.sb_rawlog.proofs.plain.PlainLogChangeLog.append.Goals as goal

pub invariant_of-self-clause-rising : goal.invariant_of-self-clause-rising
invariant_of-self-clause-rising c =
    let rs = c.args.self.now.items.items in let clock = c.args.self.now.clock in
    let good : is_ok c.push.result ≡ true = c.push.ensures.succeeds (omega (arith, c.args.self.now.within, c.requires.spare)) in
    let e : c.push.new.self.items ≡ rs ++ (clock, c.args.change) ∷ [] = c.push.ensures.items ∙ ap (λ b. cond b (rs ++ (clock, c.args.change) ∷ []) rs) good in
    subst (λ (l : List Record). Rising 0 l (clock + 1)) (sym e) (rising-push 0 rs clock c.args.change c.args.self.now.rising)

pub returns-clause-own : goal.returns-clause-own
returns-clause-own c =
    let rs = c.args.self.now.items.items in let clock = c.args.self.now.clock in
    let good : is_ok c.push.result ≡ true = c.push.ensures.succeeds (omega (arith, c.args.self.now.within, c.requires.spare)) in
    let e : c.push.new.self.items ≡ rs ++ (clock, c.args.change) ∷ [] = c.push.ensures.items ∙ ap (λ b. cond b (rs ++ (clock, c.args.change) ∷ []) rs) good in
    ap (changes_by (author c.args.change)) e ∙ own_pushed rs clock c.args.change

pub returns-clause-others : goal.returns-clause-others
returns-clause-others c =
    let rs = c.args.self.now.items.items in let clock = c.args.self.now.clock in
    let good : is_ok c.push.result ≡ true = c.push.ensures.succeeds (omega (arith, c.args.self.now.within, c.requires.spare)) in
    let e : c.push.new.self.items ≡ rs ++ (clock, c.args.change) ∷ [] = c.push.ensures.items ∙ ap (λ b. cond b (rs ++ (clock, c.args.change) ∷ []) rs) good in
    subst (λ (l : List Record). OthersStay (author c.args.change) rs l) (sym e) (others_pushed rs clock c.args.change)
