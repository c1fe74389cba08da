pub mod Zips
pub mod Counting
pub mod Tasks
pub mod Steps
pub mod Crews
pub mod Laying
