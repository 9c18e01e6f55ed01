pub mod Held
pub mod Lanes
