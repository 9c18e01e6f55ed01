mod AddLemmas
pub mod AgreeLemmas
mod AskLemmas
mod AskedLemmas
pub mod BoundLemmas
mod BriefLemmas
mod CertainLemmas
mod ClosedLemmas
mod ContextLemmas
mod DecideLemmas
mod FirstLemmas
pub mod FitLemmas
mod FormLemmas
pub mod GivenLemmas
mod HangLemmas
pub mod ListLemmas
mod ListedLemmas
mod PairLemmas
mod PartLemmas
mod RowLemmas
mod SeatLemmas
mod TimeLemmas
pub mod TriedLemmas
pub mod TurnLemmas
mod UnmetLemmas
pub mod WhereLemmas
