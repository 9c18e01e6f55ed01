pub mod ArnParts
pub mod Entries
pub mod Parts
pub mod Places
pub mod Session
pub mod Values
