pub mod Spots
pub mod Texts
