pub mod ArnLemmas
pub mod Finding
pub mod Joining
pub mod KeyLemmas
pub mod PathLemmas
pub mod PlaceLemmas
pub mod RequesterLemmas
pub mod Shares
pub mod Signs
mod Wildcards
pub mod WideLemmas
