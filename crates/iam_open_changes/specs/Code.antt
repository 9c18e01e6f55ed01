pub mod Adds
pub mod Certain
pub mod Implied
pub mod Kept
pub mod Parts
pub mod Same
pub mod Texts
