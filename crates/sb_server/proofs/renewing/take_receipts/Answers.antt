use Rattle.std.proofs.Common.{◌≡◌, ◌∙◌, ◌++◌, List, ap, append-nil, length, refl, subst, sym, arith}
use Rattle.std.specs.Prelude.{IsPermutation}
use Rattle.std.specs.List.{All}
use Rattle.std.proofs.lemmas.List.Elements.{All-nil}
use Rattle.std.proofs.lemmas.List.Sorted.{IsPermutation-refl, IsPermutation-trans}
use Rattle.sb_desk.specs.declared.stub.Stub.{Stub}
use Rattle.sb_server.proofs.renewing.take_receipts.Goals as goal

-- none is moved yet
pub loop-place-init : goal.loop-place-init
loop-place-init c =
    let stubs = c.args.stubs.now.items in
    let none = ap length c.requires in
    record {
      moved = subst (λ (l : List Stub). IsPermutation stubs (stubs ++ l)) (sym c.requires) (subst (λ (l : List Stub). IsPermutation stubs l) (sym (append-nil stubs)) (IsPermutation-refl stubs));
      own = subst (λ (l : List Stub). All (λ (stub : Stub). stub.tenant ≡ c.args.tenant) l) (sym c.requires) (All-nil (λ (stub : Stub). stub.tenant ≡ c.args.tenant));
      count = omega (arith, none);
      capacity = refl;
    }

-- one more is looked at
pub loop-place-preserved : goal.loop-place-preserved
loop-place-preserved c =
    let was = c.loop-place.invariant in
    let did = c.pass_or_take.ensures in
    record {
      moved = IsPermutation-trans c.args.stubs.now.items (c.loop-place.stubs.items ++ c.loop-place.own.items) (c.pass_or_take.new.stubs.items ++ c.pass_or_take.new.own.items) was.moved did.moved;
      own = did.own was.own;
      count = omega (arith, did.count, was.count);
      capacity = did.capacity ∙ was.capacity;
    }

-- there was no memory
pub returns-in-None : goal.returns-in-None
returns-in-None c =
    let was = c.loop-place.invariant in
    let did = c.pass_or_take.ensures in
    record {
      moved = IsPermutation-trans c.args.stubs.now.items (c.loop-place.stubs.items ++ c.loop-place.own.items) (c.pass_or_take.new.stubs.items ++ c.pass_or_take.new.own.items) was.moved did.moved;
      own = did.own was.own;
      count = omega (arith, did.count, was.count);
      capacity = did.capacity ∙ was.capacity;
    }
