pub mod Tables
pub mod Faults
pub mod Moves
pub mod Opens
pub mod Refusals
pub mod Replies
pub mod Steps
pub mod Verdicts
