pub mod TableSets
pub mod Operation
pub mod Places
pub mod Stands
