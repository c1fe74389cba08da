pub mod Spots
pub mod Rises
pub mod Sessions
pub mod Marks
pub mod Ahead
pub mod Takes
pub mod Seen
pub mod KeySteps
pub mod Steps
pub mod Free
pub mod Taken
pub mod Empty
pub mod Chains
pub mod Logs
pub mod Orders
mod Backs
