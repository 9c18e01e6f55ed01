pub mod Compiled
pub mod Globs
pub mod Walk
