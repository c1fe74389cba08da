use denote.Param.Send.{arg_sync, copied_sync, param_sync}
use Rattle.std.proofs.Common.{◌≡◌, ℕ, Bool, List, [], ◌∷◌, Result, Ok, Err, subst, sym}
use Rattle.std.specs.Prelude.{IfOk, Vec}
use Rattle.std.specs.Global.{Global}
use Rattle.std.specs.List.{AllZip, flat_map}
use Rattle.std.proofs.lemmas.List.Elements.{All-nil}
use Rattle.sb_connection.specs.Policies.{Policy}
use Rattle.sb_desk.specs.declared.stub.Stub.{Stub}
use Rattle.sb_server.specs.Renewals.{IsLeft, LeavesOrRenews}
use Rattle.sb_server.proofs.Renewed.{leave_both, leaves_all}
use Rattle.sb_server.proofs.guard.Guard.TheSendSync as guard
use Rattle.sb_server.proofs.server.Serving.TheSendSync as serving
use Rattle.sb_server.proofs.server.serve_as.Goals as goal

-- the threads share the host, the mailboxes, the watch and the guard
pub run_beside-parts-requires-sync-W : goal.run_beside-parts-requires-sync-W
run_beside-parts-requires-sync-W g c = λ κs bounds. search (param_sync, arg_sync, copied_sync, serving.the_sync, guard.the_sync)

-- each thread hands out its own
all_of : {A : Type 0} (p : Policy) (may : Bool) (takes : ℕ → List Stub → Type 0) (jobs : List A) (parts : List (Vec Stub Global))
    → AllZip (λ job part. LeavesOrRenews p may takes part.items) jobs parts → LeavesOrRenews p may takes (flat_map (λ part. part.items) parts)
all_of p may takes [] [] all = leaves_all p may takes [] (All-nil (IsLeft p may))
all_of p may takes [] (part ∷ parts) all = absurd all
all_of p may takes (job ∷ jobs) [] all = absurd all
all_of p may takes (job ∷ jobs) (part ∷ parts) (own, others) =
    leave_both p may takes part.items (flat_map (λ part. part.items) parts) own (all_of p may takes jobs parts others)

-- the receipts of all of them
all_handed : {A E F : Type 0} (p : Policy) (may : Bool) (takes : ℕ → List Stub → Type 0) (jobs : List A) (parts : Result (Vec (Vec Stub Global) Global) E) (all : Result (Vec Stub Global) F)
    → IfOk parts (λ results. AllZip (λ job part. LeavesOrRenews p may takes part.items) jobs results.items)
    → IfOk all (λ stubs. (lists : Vec (Vec Stub Global) Global) × (parts ≡ Ok lists) × (stubs.items ≡ flat_map (λ part. part.items) lists.items))
    → IfOk all (λ stubs. LeavesOrRenews p may takes stubs.items)
all_handed p may takes jobs parts (Err e) did left = tt
all_handed p may takes jobs parts (Ok stubs) did (lists, is, items) =
    let done = subst (λ r. IfOk r (λ results. AllZip (λ job part. LeavesOrRenews p may takes part.items) jobs results.items)) is did in
    subst (λ (l : List Stub). LeavesOrRenews p may takes l) (sym items) (all_of p may takes jobs lists.items done)

pub returns : goal.returns
returns g c =
    all_handed g.N.PolicyName.policy g.E.Renewals.may_renew g.E.Renewals.takes _ c.run_beside-parts.result c.all_stubs.result c.run_beside-parts.ensures c.all_stubs.ensures
