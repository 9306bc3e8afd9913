pub mod Fitting
pub mod MoveLaws
pub mod Naming
pub mod NextMove
