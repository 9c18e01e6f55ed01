pub mod LaneRule
pub mod Words
pub mod Fields
pub mod Closing
