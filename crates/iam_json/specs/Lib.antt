pub mod Look
pub mod Scalar
pub mod Size
