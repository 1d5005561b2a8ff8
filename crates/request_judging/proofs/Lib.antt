pub mod NodesSteps
pub mod SeenLaws
pub mod ChecksSteps
pub mod JudgingSteps
pub mod TreesSteps
