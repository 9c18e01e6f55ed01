mod Cells
pub mod ChangedLines
mod ChangedReport
mod Fields
mod OneText
pub mod Plain
pub mod Rendered
mod Reports
pub mod Rows
pub mod Texts
