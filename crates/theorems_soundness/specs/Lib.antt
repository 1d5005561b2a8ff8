pub mod Chain
pub mod FactsOfNodes
pub mod FactsOfBlossoms
pub mod Facts
pub mod Faults
pub mod RuleFacts
pub mod WithBudgets
