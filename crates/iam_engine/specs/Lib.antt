pub mod Cache
pub mod Known
pub mod Walk
