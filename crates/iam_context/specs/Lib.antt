pub mod Code
pub mod Context
pub mod ContextFault
pub mod Keys
pub mod Order
pub mod Requester
pub mod Resolve
pub mod Wide
