pub mod WaySteps
pub mod WayLaws
pub mod FollowSteps
pub mod FollowedEntry
pub mod Answers
