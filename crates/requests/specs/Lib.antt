pub mod Meeting
pub mod Resolving
