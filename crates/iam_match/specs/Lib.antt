pub mod Code
pub mod Entry
pub mod Principal
pub mod Request
pub mod Statement
pub mod Wide
pub use Rattle.iam_context.specs.Requester
