pub mod Dumps
pub mod Playing
