-- The values of parameters, one behind the other.
use Rattle.std.proofs.Common.{List, ◌++◌, Result, Ok, Err}
use Rattle.sb_value.specs.declared.value.Value.{Value}
use Rattle.sb_frontend.specs.declared.denial.Denial.{Denial}

-- those that were read, and what comes behind them
abbrev pub after : List Value → Result (List Value) Denial → Result (List Value) Denial
after made (Ok vs) = Ok (made ++ vs)
after made (Err why) = Err why
