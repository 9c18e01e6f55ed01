pub mod Lists
pub mod Sums
pub mod Marking
pub mod Steps
pub mod Seats
pub mod Closing
pub mod Deques
pub mod Thefts
