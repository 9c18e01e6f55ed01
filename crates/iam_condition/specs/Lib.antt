pub mod Code
pub mod Condition
pub mod Entry
pub mod Operand
pub mod Operator
