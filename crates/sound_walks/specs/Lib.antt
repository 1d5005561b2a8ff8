pub mod Marks
pub mod Pass
pub mod Lists
pub mod Depths
pub mod Numbers
