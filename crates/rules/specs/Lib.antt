pub mod Changes
pub mod Naming
pub mod Noting
pub mod Spare
pub mod Values
