pub mod Leads
pub mod Starts
pub mod Tiles
