-- Lines and the replies to those that reach no tenant, by computation.
use Rattle.std.specs.Prelude.{◌≡◌, None, nat_lt, [], ◌∷◌, ◌++◌, replicate, refl, codes}
use Rattle.std.specs.Fmt.{digits}
use Rattle.sb_tenant.specs.State.{opening}
use Rattle.sb_syntax.specs.Text.{command_of}
use Rattle.sb_wire.specs.Lines.{pieces_of, too_long, line}
use Rattle.sb_wire.specs.Output.{ended_lines, output}

-- an empty input has no line
pub empty_input : output (λ t. nat_lt t 16) (record { considerations = 1000; work = None }) (λ t. opening) [] ≡ []
empty_input = refl

-- numbers, tenants and sessions that aren't there; the last line has no newline
pub lines_of_no_tenant : output (λ t. nat_lt t 16) (record { considerations = 1000; work = None }) (λ t. opening)
    (ended_lines (codes "x" ∷ [] ∷ codes "00 0 begin" ∷ codes "16 0 begin" ∷ codes "0 8 begin" ∷ codes "0 0" ∷ codes "999999999 0 begin" ∷ codes "1000000000 0 begin" ∷ codes "0 0 " ∷ [])
    ++ codes "0 0 comm")
    ≡ ended_lines (codes "- - no 12 BadLine" ∷ codes "- - no 12 BadLine" ∷ codes "- - no 12 BadLine" ∷ codes "16 0 no 13 NoTenant" ∷ codes "0 8 no 14 NoSession"
    ∷ codes "- - no 12 BadLine" ∷ codes "999999999 0 no 13 NoTenant" ∷ codes "- - no 12 BadLine" ∷ codes "0 0 no 10 Syntax" ∷ codes "0 0 no 10 Syntax" ∷ [])
unfolding digits command_of
lines_of_no_tenant = refl

-- a line of 4,097 bytes, and one of 4,096
pub long_line : pieces_of (replicate 4097 120 ++ 10 ∷ replicate 4096 120) ≡ too_long ∷ line (replicate 4096 120) ∷ []
long_line = refl
