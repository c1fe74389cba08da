-- Promise: whom a server lets in.
use Rattle.std.specs.Prelude.{ℕ, Bool, List, ⊤}

-- which key opens which tenant
abbrev pub Admits : Type 1
Admits = ℕ → List ℕ → Type 0

abbrev pub anyone : Admits
anyone tenant key = ⊤

-- whether first lines bring a key, and whom it admits
pub record Policy : Type 1 where
  pub keyed : Bool
  pub admits : Admits

abbrev pub policy : Bool → Admits → Policy
policy keyed admits = record { keyed = keyed; admits = admits }
