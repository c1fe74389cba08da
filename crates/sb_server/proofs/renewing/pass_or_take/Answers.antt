use Rattle.std.proofs.Common.{◌∙◌, ◌++◌, ◌∷◌, [], List, ap, subst, sym, ◌<◌, arith}
use Rattle.std.proofs.lemmas.List.Sorted.{IsPermutation-refl}
use Rattle.std.specs.Prelude.{IsPermutation, length}
use Rattle.sb_desk.specs.declared.stub.Stub.{Stub}
use Rattle.sb_server.proofs.Renewed.{moved_one}
use Rattle.sb_server.proofs.renewing.pass_or_take.Goals as goal

-- they are another tenant's
pub returns-then-here-tenant-clause-moved : goal.returns-then-here-tenant-clause-moved
returns-then-here-tenant-clause-moved c = IsPermutation-refl (c.args.stubs.now.items ++ c.args.own.now.items)

-- there is no memory
pub returns-then-is_err-clause-moved : goal.returns-then-is_err-clause-moved
returns-then-is_err-clause-moved c =
    subst (λ (l : List Stub). IsPermutation (c.args.stubs.now.items ++ c.args.own.now.items) (c.args.stubs.now.items ++ l)) (sym c.reserve.ensures.items)
    (IsPermutation-refl (c.args.stubs.now.items ++ c.args.own.now.items))

-- they are moved
pub returns-clause-moved : goal.returns-clause-moved
returns-clause-moved c =
    let stubs = c.args.stubs.now.items in
    let within : c.args.place < length stubs = omega arith in
    moved_one stubs c.args.own.now.items c.swap_remove-stub.new.self.items c.push_reserved.new.self.items c.args.place c.swap_remove-stub.result within c.swap_remove-stub.ensures.value
    c.swap_remove-stub.ensures.items (c.push_reserved.ensures.items ∙ ap (λ (l : List Stub). l ++ c.swap_remove-stub.result ∷ []) c.reserve.ensures.items)
