pub mod Links
pub mod States
