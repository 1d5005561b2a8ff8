pub mod Choice
pub mod Stores
pub mod Count
