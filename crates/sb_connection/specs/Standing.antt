-- Machine: where a connection stands.
use Rattle.std.specs.Prelude.{Bool, true, false}
use Rattle.sb_connection.specs.declared.state.State.{State}
use Rattle.sb_connection.specs.declared.state.State.TheVariants.{Open}

abbrev pub is_open : State → Bool
is_open Open = true
is_open other = false
