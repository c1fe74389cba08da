pub mod Rising
pub mod Slots
pub mod Stored
pub mod Undo
pub mod Laws
pub mod Held
pub mod Filled
