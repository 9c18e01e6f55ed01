mod ActingLemmas
mod ActionLemmas
mod AlikeLemmas
pub mod AtLemmas
mod ElementLemmas
pub mod FirstLemmas
mod GroupLemmas
mod KnownLemmas
pub mod LineLemmas
pub mod ListLemmas
pub mod MadeLemmas
mod MatchLemmas
pub mod MeantLemmas
pub mod MemberLemmas
mod NamedCellLemmas
pub mod NamesLemmas
pub mod OneLemmas
pub mod OneRowsLemmas
pub mod OwnLemmas
mod PickedLemmas
pub mod ReportLemmas
pub mod RowLemmas
mod SceneLemmas
mod SideLemmas
pub mod TellingLemmas
mod TextLemmas
mod ToldLemmas
pub mod WalkLemmas
