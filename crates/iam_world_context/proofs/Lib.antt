pub mod Lists
pub mod PartLemmas
