pub mod Statuses
pub mod Certified
pub mod Struck
pub mod ValidFaults
pub mod MemberRuns
pub mod Traps
pub mod RunsUnder
pub mod PlanTables
