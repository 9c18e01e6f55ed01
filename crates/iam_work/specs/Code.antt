pub mod MarkRule
pub mod RunRule
pub mod Words
pub mod Fields
pub mod Closing
pub mod Thefts
