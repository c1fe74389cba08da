-- Promise: what a statement sees.
pub use Rattle.sb_plan.specs.Seen.{Seen, no_transition, rows_in, row_count}
