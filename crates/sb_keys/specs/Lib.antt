pub mod Keys
pub mod Text
pub mod Seen
pub mod KeyDigests
pub mod KeyTexts
