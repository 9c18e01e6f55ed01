mod Blocks
pub mod Buffered
mod Fronts
mod Runs
mod Whole
