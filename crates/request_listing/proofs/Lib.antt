pub mod PairsSteps
pub mod SlotsSteps
pub mod ListingSteps
pub mod Defects
pub mod Room
pub mod Given
