pub mod OneSlot
pub mod Given
