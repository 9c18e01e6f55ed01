pub mod Documents
pub mod Made
pub mod ViewFault
