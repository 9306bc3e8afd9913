pub mod Forms
pub mod Soundness
