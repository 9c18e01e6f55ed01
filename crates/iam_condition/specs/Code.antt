pub mod Names
pub mod Walks
pub mod Reading
