pub mod Order
pub mod Choosing
pub mod Branches
pub mod Uses
pub mod Models
pub mod Supposing
