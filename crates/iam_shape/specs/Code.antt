pub mod Members
pub mod Walk
