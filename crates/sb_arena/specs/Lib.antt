pub mod Blocks
pub mod Ownership
pub mod Places
