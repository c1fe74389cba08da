-- Promise: limits of a tenant.
use Rattle.std.specs.Prelude.{ℕ}

-- the most rules of a tenant
abbrev pub rule_limit : ℕ
rule_limit = 256
