pub mod Elements
pub mod Given
pub mod Index
pub mod Known
pub mod Numbers
pub mod Parts
pub mod Rows
pub mod Signs
