pub mod Applicable
pub mod Code
pub mod Decision
pub mod Early
pub mod Laws
pub mod Living
pub mod Matched
pub mod Ruling
