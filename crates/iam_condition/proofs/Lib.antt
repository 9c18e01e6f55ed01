mod NameLemmas
mod WalkLemmas
mod ValueLemmas
mod ReadingLemmas
mod OneReading
