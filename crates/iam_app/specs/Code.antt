pub mod Asking
pub mod Cells
pub mod Comparing
pub mod Naming
pub mod Pieces
pub mod Sides
pub mod Turning
pub mod TurningSides
