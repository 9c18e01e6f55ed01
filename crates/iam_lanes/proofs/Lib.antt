pub mod Counts
pub mod Sums
pub mod Events
pub mod Bounds
pub mod Seating
pub mod Steps
pub mod Calls
pub mod Closing
