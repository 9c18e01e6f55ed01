mod CacheLemmas
mod EngineLemmas
mod KnownLemmas
mod WalkLemmas
