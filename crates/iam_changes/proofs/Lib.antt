pub mod Cells
mod ChangeLaws
mod Changing
pub mod Counts
pub mod Listed
pub mod Ones
pub mod Pieced
mod Placed
pub mod Places
mod Products
pub mod Rendered
mod Somes
mod Texts
mod TwiceTexts
pub mod Written
