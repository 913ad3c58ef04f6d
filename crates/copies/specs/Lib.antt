pub mod Cells
pub mod Executions
pub mod Names
pub mod Rows
pub mod Sharing
pub mod Starts
pub mod Tests
