pub mod DiskCases
pub mod FailingDiskCases
pub mod LinkCases
pub mod StreamCases
pub mod ClassLaws
pub mod OtherClasses
pub mod ClauseCases
mod OnLiterals
mod InputOnLiterals
mod TraceOnLiterals
mod GuardOnLiterals
