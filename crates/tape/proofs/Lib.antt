pub mod NextSteps
pub mod Tails
