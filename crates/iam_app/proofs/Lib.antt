mod Asking
mod Compared
mod Comparing
mod ComparingLemmas
mod Flushed
mod NamingLemmas
pub mod OneOutput
pub mod Refusals
mod Selecting
mod TurnedChangesLemmas
mod TurnedLemmas
