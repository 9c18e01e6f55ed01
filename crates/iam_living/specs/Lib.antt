pub mod Asker
pub mod Keys
pub mod Listing
pub mod Marks
pub mod Living
pub mod Survey
pub mod Word
