pub mod AsciiLemmas
pub mod BackLemmas
pub mod CompiledLemmas
pub mod GivenLemmas
pub mod SignLemmas
pub mod WalkLemmas
