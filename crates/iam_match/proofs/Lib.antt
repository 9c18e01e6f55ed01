pub mod ColonLemmas
pub mod CompareLemmas
pub mod FixedLemmas
pub mod GivenLemmas
pub mod GrantLemmas
pub mod JoinLemmas
pub mod StatementLemmas
pub mod WideLemmas
