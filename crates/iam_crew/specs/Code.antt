pub mod Job
pub mod Order
pub mod Runs
pub mod Shares
pub mod Worker
