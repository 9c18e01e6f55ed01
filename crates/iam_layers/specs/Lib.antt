pub mod Applicable
pub mod Cell
pub mod Code
pub mod Derived
pub mod Laws
pub mod Own
pub mod Unnamed
