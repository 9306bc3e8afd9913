pub mod Checked
pub mod Made
pub mod Places
pub mod Readable
