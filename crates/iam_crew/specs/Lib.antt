pub mod Bound
pub mod Code
