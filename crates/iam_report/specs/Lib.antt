pub mod Code
pub mod Streams
