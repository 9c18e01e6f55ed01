pub mod Code
pub mod Fault
pub mod Reading
pub mod Statement
pub mod Table
pub mod Version
