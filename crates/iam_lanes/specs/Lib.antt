pub use Rattle.iam_work.specs.Work
pub use Rattle.iam_work.specs.declared.run.Run
pub mod Lanes
pub mod Code
