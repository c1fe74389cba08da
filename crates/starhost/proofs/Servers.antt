-- A server's first line and its last, and why it ends early.
use Rattle.std.proofs.Common.{◌≡◌, ◌⊎◌, ◌++◌, ℕ, false, List, Option, Result, Ok, Err, refl, inl, inr, subst}
use Rattle.std.specs.Prelude.{IfErr, OnOk}
use Rattle.std.specs.Io.KnownBytes.{Appends}
use Rattle.std.specs.List.{All}
use Rattle.std.proofs.KnownBytes.{Appends-trans, Keeps-refl}
use Rattle.sb_tenant.specs.declared.bound.Bound.{Bound}
use Rattle.sb_host.specs.Desk.{Stub}
use Rattle.sb_server.specs.Policies.{anyone, policy}
use Rattle.sb_server.specs.Renewals.{IsLeft}
use Rattle.starhost.specs.Ends.{EndsEarly, FailsToTell}
use Rattle.starhost.specs.Plains.{IsUnheard, IsUnserved}
use Rattle.starhost.specs.Totals.{TellsServer, TellsTrails}
use Rattle.sb_monitor.specs.Listening.{TellsPort, listening_line}
use Rattle.starhost.specs.declared.fault.ProgramFault.{ProgramFault}

pub tells_both : (old mid new : Option (List ℕ)) (b bound : Bound) (t tenants port : ℕ) (ended : Result (Unit {0}) ProgramFault) → b ≡ bound → t ≡ tenants
    → Appends old mid (listening_line port) → OnOk ended ((line : List ℕ) × Appends mid new line × TellsTrails b t line)
    → OnOk ended ((text : List ℕ) × Appends old new text × TellsServer bound tenants text)
tells_both old mid new b bound t tenants port (Ok value) same_bound same_tenants first (line, last, tells) = (
  listening_line port ++ line,
  Appends-trans old mid new (listening_line port) line first last,
  (port, line, subst (λ x. TellsTrails x tenants line) same_bound (subst (λ x. TellsTrails b x line) same_tenants tells), refl),
)
tells_both old mid new b bound t tenants port (Err why) same_bound same_tenants first none = none

module _ {W : Type 0} (refuses : W → Type 0) (contents : W → Option (List ℕ)) (old mid new : W) where
  -- it ends early behind its last connection
  pub ends_behind : (b bound : Bound) (t tenants first : ℕ) (stubs : List Stub) (ended : Result (Unit {0}) ProgramFault) → b ≡ bound → t ≡ tenants
      → TellsPort (contents old) (contents mid) → All (IsLeft (policy false anyone) false) stubs
      → IfErr ended (λ why. FailsToTell refuses contents b t first stubs mid new why)
      → IfErr ended (EndsEarly refuses contents bound tenants first old new)
  ends_behind b bound t tenants first stubs (Ok value) same_bound same_tenants told left fails = fails
  ends_behind b bound t tenants first stubs (Err why) same_bound same_tenants told left fails =
      inr (
        told.0,
        mid,
        told.1,
        inr (
          stubs,
          left,
          subst (λ x. FailsToTell refuses contents x tenants first stubs mid new why) same_bound (subst (λ x. FailsToTell refuses contents b x first stubs mid new why) same_tenants fails),
        ),
      )

module _ {W : Type 0} (refuses : W → Type 0) (contents : W → Option (List ℕ)) (old new : W) where
  -- or nothing listens, or connections aren't served
  pub ends_unserved : (bound : Bound) (tenants first : ℕ) (why : ProgramFault) → IsUnheard refuses contents old new why ⊎ (TellsPort (contents old) (contents new) × IsUnserved why)
      → EndsEarly refuses contents bound tenants first old new why
  ends_unserved bound tenants first why (inl unheard) = inl unheard
  ends_unserved bound tenants first why (inr (told, unserved)) = inr (told.0, new, told.1, inl (Keeps-refl (contents new), unserved))
