-- Machine: who may have a session opened.
use Rattle.std.specs.Prelude.{◌≡◌, true, ℕ, List}
use Rattle.sb_connection.specs.Policies.{Policy}
use Rattle.sb_connection.specs.declared.first_line.SessionName.{SessionName}

-- no key is asked for, or one of the tenant's was brought
abbrev pub IsAdmissible : Policy → SessionName → Type 0
IsAdmissible p named = p.keyed ≡ true → (key : List ℕ) × p.admits named.tenant key
