pub mod Loaded
pub mod Lent
pub mod InOrder
pub mod Tapes
pub mod InARow
pub mod LazyPorts
pub mod Turns
pub mod Written
