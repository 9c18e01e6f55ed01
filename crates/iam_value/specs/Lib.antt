pub mod Reading
pub mod Pieces
pub mod Values
pub mod Moment
pub mod Address
