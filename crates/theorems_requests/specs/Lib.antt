pub mod Named
pub mod Orders
pub mod Sides
pub mod ListingCalls
pub mod ListingWithoutTest
