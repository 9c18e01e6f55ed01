pub mod LeadLemmas
pub mod OneMatrix
mod RowLemmas
mod Offers
pub mod Tails
pub mod Tiles
