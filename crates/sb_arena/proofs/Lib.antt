mod Crossing
pub mod Fulls
pub mod Joined
pub mod Names
pub mod Rows
pub mod Shared
