pub mod Work
pub mod Code
