pub mod Code
pub mod Invariants
pub mod Reads
pub mod World
pub mod WorldFault
