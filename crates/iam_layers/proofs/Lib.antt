pub mod CellLemmas
pub mod DerivedLemmas
mod ManagementLemmas
mod OneAnswer
pub mod OwnLemmas
mod UnnamedLemmas
pub mod VerdictLemmas
