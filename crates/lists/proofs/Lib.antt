pub mod Stores
pub mod Count
pub mod Budget
