pub mod Spans
pub mod Newest
pub mod Seen
pub mod Hits
pub mod Meets
pub mod Scopes
pub mod Tables
