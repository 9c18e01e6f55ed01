pub mod Code
pub mod Cut
pub mod Fault
pub mod Laws
pub mod Matrix
pub mod Report
pub mod Workers
pub use Rattle.iam_classes.specs.Engine
