pub mod Terms
pub mod Totals
pub mod Parses
pub mod Commands
pub mod Faults
pub mod Ends
pub mod Plains
pub mod Reads
