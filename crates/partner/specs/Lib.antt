pub mod Way
pub mod Following
