pub mod Checked
pub mod Claimed
pub mod Kept
pub mod Ready
pub mod Replies
pub mod ShadowAnswers
