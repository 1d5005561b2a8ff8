pub mod Digits
pub mod Copy
pub mod Scan
pub mod Theorems
pub mod Displayed
pub mod Added
