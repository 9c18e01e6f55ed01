pub mod Code
pub mod Glob
pub mod Signs
