pub mod AsmInstrs
pub mod AsmNumbers
pub mod AsmSteps
pub mod AsmText
pub mod AsmWhole
pub mod AsmOnLiterals
