pub mod Counting
pub mod Reported
pub mod Shown
pub mod CampaignCounts
