pub mod Asks
pub mod Names
