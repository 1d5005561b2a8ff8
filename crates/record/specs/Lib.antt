pub mod Kinds
pub mod Fields
pub mod Records
pub mod Padding
pub mod Reading
pub mod Writing
