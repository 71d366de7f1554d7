pub mod Setting
pub mod Bursts
pub mod AlikeSteps
pub mod AlikeRuns
pub mod AlikeWhole
pub mod Rows
pub mod MemberRows
