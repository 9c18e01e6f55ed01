pub mod FaultLaws
pub mod ElementLemmas
pub mod OneReading
pub mod ReadingLemmas
pub mod SidLemmas
pub mod TableLaws
