mod ColumnLemmas
pub mod ListLemmas
pub mod RowLemmas
pub mod SlotLemmas
