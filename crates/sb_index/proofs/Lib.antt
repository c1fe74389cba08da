pub mod Flags
pub mod Columns
