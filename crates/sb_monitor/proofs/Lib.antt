mod Shown
mod Held
pub mod Sending
