pub mod AgreeLemmas
mod WalkLemmas
mod NameLemmas
