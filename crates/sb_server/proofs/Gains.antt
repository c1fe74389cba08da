-- What a worker gains, one part after another.
use Rattle.std.proofs.Common.{◌≡◌, ◌∙◌, sym, ap, Bool, List, [], ◌∷◌, ◌++◌, Some, append_assoc, append-nil}
use Rattle.std.proofs.lemmas.List.Elements.{All-append, All-cons, All-nil}
use Rattle.sb_desk.specs.declared.stub.Stub.{Stub}
use Rattle.sb_connection.specs.History.{History}
use Rattle.sb_connection.specs.Policies.{Policy}
use Rattle.sb_connection.specs.Traffic.{Traffic}
use Rattle.sb_server.specs.Closed.{GainsClosed, Leaves, LeavesClosed}

pub gains_nothing : (p : Policy) (old new : List Stub) → new ≡ old → GainsClosed p old new
gains_nothing p old new same = ([], same ∙ sym (append-nil old), All-nil (LeavesClosed p))

pub gains_then : (p : Policy) (old mid new : List Stub) → GainsClosed p old mid → GainsClosed p mid new → GainsClosed p old new
gains_then p old mid new one two =
    (one.0 ++ two.0, two.1 ∙ ap (λ (l : List Stub). l ++ two.0) one.1 ∙ append_assoc old one.0 two.0, All-append (LeavesClosed p) one.0 two.0 one.2 two.2)

-- the receipts of one connection
pub gains_left : (p : Policy) (old new : List Stub) (t : Traffic) (h : History) (is_cut : Bool) (stub : Stub) → Leaves p t h is_cut (Some stub) → new ≡ old ++ stub ∷ [] → GainsClosed p old new
gains_left p old new t h is_cut stub left same =
    let one : LeavesClosed p stub = record { closed = left.2; traffic = t; history = h; is_cut = is_cut; carries = left.0; conversation = left.1; keyed = left.3 } in
    (stub ∷ [], same, All-cons (LeavesClosed p) stub [] one (All-nil (LeavesClosed p)))
