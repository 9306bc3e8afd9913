pub mod Truths
pub mod Agree
pub mod Numbers
pub mod Values
pub mod Counts
pub mod Parts
pub mod Layers
