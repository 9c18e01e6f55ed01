pub mod Batch
pub mod Batches
pub mod Code
pub mod Engine
pub mod Memo
pub mod Span
pub mod Told
pub mod Words
