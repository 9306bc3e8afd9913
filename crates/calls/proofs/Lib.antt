pub mod Kept
pub mod Performed
pub mod Seated
pub mod Standing
