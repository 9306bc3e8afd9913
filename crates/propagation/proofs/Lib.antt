pub mod Growing
pub mod Signs
pub mod Blocks
pub mod Heard
pub mod Weighing
pub mod Growth
