pub mod Differences
pub mod Rows
pub mod Standings
pub mod Words
