pub mod ArnLemmas
pub mod DraftLemmas
pub mod FormLemmas
pub mod KeptLemmas
pub mod VariableLemmas
pub mod VersionLemmas
