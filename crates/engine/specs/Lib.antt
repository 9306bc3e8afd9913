pub mod Truth
pub mod Meaning
pub mod Count
pub mod Theorems
pub mod Asking
