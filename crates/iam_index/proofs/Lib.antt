pub mod ListLemmas
mod AlikeLemmas
mod ElementLemmas
pub mod GivenLemmas
pub mod IndexLemmas
mod ListedLemmas
mod MarkLemmas
mod RowLemmas
mod NumberLemmas
