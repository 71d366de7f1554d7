pub mod PromiseCases
pub mod PromiseChanges
