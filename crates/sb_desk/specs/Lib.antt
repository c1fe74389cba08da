pub mod Seats
pub mod Receipts
pub mod Desks
pub mod Kept
pub mod Fields
pub mod Calls
pub mod Stubs
