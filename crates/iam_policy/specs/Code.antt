pub mod First
pub mod Readable
pub mod Sids
