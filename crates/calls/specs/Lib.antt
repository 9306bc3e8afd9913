pub mod Acts
pub mod Places
pub mod Happening
pub mod Runs
pub mod Laws
