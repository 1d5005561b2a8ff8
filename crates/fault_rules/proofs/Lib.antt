pub mod WaySteps
pub mod ChildListSteps
pub mod RingSteps
