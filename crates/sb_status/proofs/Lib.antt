pub mod Marked
pub mod Ruled
pub mod Targets
