pub mod Entered
pub mod Moving
pub mod Playing
