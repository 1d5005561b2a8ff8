pub mod Number
pub mod State
pub mod Slot
pub mod Shown
