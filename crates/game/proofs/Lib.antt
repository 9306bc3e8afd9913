pub mod OpeningFits
pub mod Played
pub mod Replied
pub mod Replies
