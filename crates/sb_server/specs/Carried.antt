-- Machine: what has gone over a stream is what its connection received and handed out.
use Rattle.std.specs.Prelude.{◌≡◌, ℕ, Bool, true, false, List}
use Rattle.std.specs.Io.{StartsWith}
use Rattle.sb_connection.specs.History.{History}
use Rattle.sb_connection.specs.Traffic.{Traffic, gave, has_ended, took}

-- what was received is what came; where memory ran out, a first part of it
abbrev pub Hears : Bool → List ℕ → List ℕ → Type 0
Hears is_cut came received = StartsWith came received × (is_cut ≡ false → received ≡ came)

-- What the connection received is what the stream gave, what it handed out is what the stream took, and it is at its end only where the
-- stream has ended.
pub record Carries (t : Traffic) (h : History) (is_cut : Bool) : Type 0 where
  pub hears : Hears is_cut (gave t) h.received
  pub sends : h.handed ≡ took t
  pub ends : h.at_end ≡ true → has_ended t ≡ true
