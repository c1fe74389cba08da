pub mod Closed
pub mod Members
pub mod Ranks
pub mod Rows
