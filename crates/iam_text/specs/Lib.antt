pub mod Arn
pub mod Characters
pub mod Code
pub mod Draft
pub mod Stretches
pub mod Template
pub mod Variables
