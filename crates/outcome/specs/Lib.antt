pub mod Handled
pub mod Call
pub mod Tape
pub mod Told
pub mod Numbered
pub mod Partner
pub mod PartnerInNumbers
pub mod FaultInNumbers
