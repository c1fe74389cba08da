use Rattle.std.proofs.Common.{◌≡◌, ◌+◌, refl, List, [], ◌∷◌, ◌++◌, take, sym, ap, ◌∙◌, subst, arith}
use Rattle.std.proofs.lemmas.List.{take_all, take_more}
use Rattle.sb_desk.specs.declared.stub.Stub.{Stub}
use Rattle.sb_host.specs.Comparing.{IsFirstStray}
use Rattle.sb_host.proofs.gathering.first_stray.Goals as goal

pub loop-stub-init : goal.loop-stub-init
loop-stub-init c = λ t s far. refl

pub loop-stub-preserved : goal.loop-stub-preserved
loop-stub-preserved c =
    let all = c.args.stubs.now in
    let i = c.loop-stub.stub-index in
    let more : take i all ++ c.stub-item.result ∷ [] ≡ take (i + 1) all = ap (λ (x : Stub). take i all ++ x ∷ []) c.stub-item.is ∙ sym (take_more all i c.stub-item.result (omega arith)) in
    subst (λ (l : List Stub). IsFirstStray c.args.tenants l c.look_at.new.first) more (c.look_at.ensures (take i all) c.loop-stub.invariant)

pub returns : goal.returns
returns c = subst (λ (l : List Stub). IsFirstStray c.args.tenants l c.loop-stub.first) (take_all c.loop-stub.stub-index c.args.stubs.now (omega arith)) c.loop-stub.invariant
