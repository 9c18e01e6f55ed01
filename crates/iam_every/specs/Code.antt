pub mod Acting
pub mod Meant
pub mod Picked
pub mod Rows
pub mod Sides
pub mod Texts
pub mod Told
