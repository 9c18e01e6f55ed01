pub mod Changes
pub mod Code
pub mod Compared
pub mod Laws
pub mod Made
pub mod Report
pub mod States
