pub mod Changes
pub mod Code
pub mod CsvRow
pub mod Laws
pub mod Piece
pub mod Report
pub mod Selects
pub mod Words
