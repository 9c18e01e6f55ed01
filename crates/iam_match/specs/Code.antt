pub mod Asked
pub mod Compared
