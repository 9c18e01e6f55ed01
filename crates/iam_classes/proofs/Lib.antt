mod BatchLemmas
mod FindLemmas
mod GatherLemmas
mod LaneLemmas
mod MemoLemmas
mod SignLemmas
mod SpanLemmas
mod WordLemmas
mod WordsLemmas
pub mod EngineLemmas
