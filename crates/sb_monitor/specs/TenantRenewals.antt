-- Promise: what becomes of the receipts of a tenant's sessions: a renewal takes them, or they are held for the next one.
use Rattle.std.specs.Prelude.{◌⊎◌, ℕ, List, ◌++◌}
use Rattle.sb_host.specs.Desk.{Stub}
use Rattle.sb_host.specs.Renewal.{GivesBack}
use Rattle.sb_backup.specs.Renewals.{Renewed}

-- They come to those that were held of the tenant before. It was renewed by all of them, and what is held then is of the opening; or all are held.
abbrev pub Takes : ℕ → List Stub → List Stub → List Stub → Type 0
Takes t before stubs after = Renewed t (before ++ stubs) after ⊎ GivesBack t (before ++ stubs) after

-- so it is with some that were held
abbrev pub AreTaken : ℕ → List Stub → Type 0
AreTaken t stubs = (before after : List Stub) × Takes t before stubs after
