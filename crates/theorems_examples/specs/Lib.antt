pub mod Paths
pub mod Told
