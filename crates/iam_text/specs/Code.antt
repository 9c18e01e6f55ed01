pub mod Cut
pub mod Forms
pub mod Kept
pub mod Templates
