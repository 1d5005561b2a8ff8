pub mod Outcomes
pub mod Verdicts
pub mod PartnerAnswers
pub mod FaultAnswers
pub mod RunOutcomes
