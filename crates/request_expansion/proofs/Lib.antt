pub mod AttachingSteps
pub mod OpeningSteps
