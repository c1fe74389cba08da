-- Machine: how much memory a tenant may take.
use Rattle.std.specs.Prelude.{ℕ, ◌+◌, ◌-◌, ◌^◌, min, Bool, false, not, ◌&&◌, nat_le, List, Option, Some, None, codes}
use Rattle.sb_value.specs.Name.{same_name}
use Rattle.sb_tenant.specs.declared.quota.Quota.{Quota}

-- what is taken reaches the limit, if there is one
abbrev pub is_used_up : Option ℕ → ℕ → Bool
is_used_up (Some limit) taken = nat_le limit taken
is_used_up None taken = false

-- what the tenant takes where its rows and its open transactions take so much; more than 64 bits hold counts as the most that they hold
abbrev pub all_taken : Quota → ℕ → ℕ
all_taken quota used = min (quota.taken + used) (2 ^ 64 - 1)

-- where all is taken no line is begun but `rollback`, which gives back
abbrev pub refuses : Quota → ℕ → List ℕ → Bool
refuses quota used line = is_used_up quota.limit (all_taken quota used) && not (same_name line (codes "rollback"))
