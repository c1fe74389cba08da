use Rattle.std.proofs.Common.{◌≡◌, ◌++◌, ◌∷◌, [], List, ℕ, ap, sym, subst, ◌∙◌, rules, inl}
use Rattle.std.proofs.lemmas.List.{append-nil, nil_from_length}
use Rattle.sb_durable.specs.Log.{HasAll}
use Rattle.sb_durable.specs.Records.{Entry}
use Rattle.sb_durable.proofs.Crash.{left_now}
use Rattle.sb_durable.proofs.Batches.{none_waits, contents_more, all_more, keeps_more}
use Rattle.sb_durable.proofs.journal.Journal.commit.Goals as goal

-- nothing waits
pub returns-then-is_empty-clause-ok : goal.returns-then-is_empty-clause-ok
returns-then-is_empty-clause-ok g c head entries waiting has =
    let none : c.args.self.now.waiting.items ≡ [] = nil_from_length _ (search rules) in
    let nothing = none_waits waiting (sym has.waits ∙ none) in
    record { batches = has.batches; log = has.log; all = ap (λ (l : List Entry). entries ++ l) nothing ∙ append-nil entries ∙ has.all; waits = none }

pub returns-then-is_empty-clause-any_moment : goal.returns-then-is_empty-clause-any_moment
returns-then-is_empty-clause-any_moment g c head entries waiting has file left =
    inl (record { batches = has.batches; stands = (left_now _ _ _ _ has.log file left).stands; all = has.all })

pub returns-in_err-append-clause-any_moment : goal.returns-in_err-append-clause-any_moment
returns-in_err-append-clause-any_moment g c head entries waiting has file left =
    keeps_more head has.batches entries waiting c.deref.result.now file has.all (c.deref.ensures.value ∙ has.waits) (c.append.ensures.any_moment _ has.log file left)

pub returns-clause-ok : goal.returns-clause-ok
returns-clause-ok g c head entries waiting has =
    let disk = g.D.Disk in
    record {
      batches = has.batches ++ waiting ∷ [];
      log = subst (λ (cs : List (List ℕ)). HasAll disk.seen disk.may_leave c.append.new.self cs) (contents_more head has.batches waiting c.deref.result.now (c.deref.ensures.value ∙ has.waits)) (c.in_ok-append.ensures.ok _ has.log);
      all = all_more has.batches entries waiting has.all;
      waits = c.clear.ensures.items;
    }

pub returns-clause-any_moment : goal.returns-clause-any_moment
returns-clause-any_moment g c head entries waiting has file left =
    keeps_more head has.batches entries waiting c.deref.result.now file has.all (c.deref.ensures.value ∙ has.waits) (c.append.ensures.any_moment _ has.log file left)
