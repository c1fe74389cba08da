-- Scripts from bytes to bytes.
use Rattle.std.specs.Prelude.{ℕ, None, nat_lt, List, codes}
use Rattle.sb_tenant.specs.State.{opening}
use Rattle.sb_wire.specs.Output.{prefixed, output}

-- what the first session of a lone tenant is answered to these lines
abbrev pub answered_by : List (List ℕ) → List ℕ
answered_by lines = output (λ t. nat_lt t 1) (record { considerations = 1000; work = None }) (λ t. opening) (prefixed (codes "0 0") lines)
