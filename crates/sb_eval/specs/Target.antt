-- Promise: the table that a statement changes, and what it reads.
pub use Rattle.sb_check.specs.Mentions.{target, mentioned}
