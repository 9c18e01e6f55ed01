pub mod Code
pub mod Laws
pub mod Report
