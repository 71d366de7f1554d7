pub mod Views
pub mod ReportLines
pub mod ReportText
pub mod Campaigns
