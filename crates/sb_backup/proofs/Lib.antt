mod Dumped
pub mod Loaded
mod Played
mod Called
mod Written
