pub mod Chains
pub mod Cut
pub mod Tested
pub mod Kept
pub mod Written
