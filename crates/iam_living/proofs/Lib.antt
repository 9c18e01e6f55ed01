mod AccessLemmas
mod AlikeLemmas
mod AskerLemmas
mod KnownLemmas
mod ListWordLemmas
mod MarkLemmas
mod SurveyLemmas
pub mod WordLemmas
