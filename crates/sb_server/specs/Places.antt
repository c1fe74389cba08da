-- Promise: which worker serves whom.
use Rattle.std.specs.Prelude.{ℕ, ◌%◌}

-- a tenant's cell is its number modulo that of the cells, and the cells are shared out among the workers in the same way
abbrev pub place_of : ℕ → ℕ → ℕ → ℕ
place_of cells workers tenant = (tenant % cells) % workers
