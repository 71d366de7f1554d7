pub mod NextSteps
pub mod PartCases
