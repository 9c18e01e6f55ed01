pub mod Clean
pub mod Contexts
pub mod Part
