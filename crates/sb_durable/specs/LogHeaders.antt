-- Promise: what is told of a head that isn't the one that is wanted.
use Rattle.std.specs.Prelude.{◌≢◌}
use Rattle.sb_durable.specs.declared.journal_header.Head.{Head}
use Rattle.sb_durable.specs.declared.log_header.BeginError.{BeginError}
use Rattle.sb_durable.specs.declared.log_header.BeginError.TheVariants.{Journal, OtherMeaning, OtherTenants, OtherWork, OtherBound}

-- The error is true of the head that is there. What is called of another meaning is no head.
abbrev pub Names : BeginError → Head → Head → Type 0
Names (Journal error) other head = Unit {0}
Names OtherMeaning other head = ⊥
Names OtherTenants other head = other.tenants ≢ head.tenants
Names OtherWork other head = other.work ≢ head.work
Names OtherBound other head = other.bound ≢ head.bound
