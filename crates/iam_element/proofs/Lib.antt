mod SameLemmas
pub mod ElementLemmas
pub mod GrammarLemmas
pub mod ReadingLemmas
