pub mod Change
pub mod Code
pub mod Laws
pub mod Lists
pub mod Report
pub mod RequestLaws
pub mod Requests
pub mod Twice
