pub mod Chained
pub mod Forming
pub mod OpenSound
pub mod Rows
