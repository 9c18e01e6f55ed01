pub mod AnyKey
pub mod Every
pub mod EveryChanges
pub mod Words
