pub mod Cleared
pub mod Fresh
pub mod Emptied
