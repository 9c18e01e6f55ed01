pub mod Code
pub mod InBoth
pub mod Laws
pub mod Report
pub mod Rows
pub mod Same
pub mod Sides
pub mod Told
