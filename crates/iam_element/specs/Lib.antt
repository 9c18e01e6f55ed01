pub mod ActionPattern
pub mod Code
pub mod Element
pub mod Grammar
pub mod Principal
pub mod Reading
