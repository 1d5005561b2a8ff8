pub mod MatchingSteps
pub mod GrowthSteps
