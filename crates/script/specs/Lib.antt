pub mod Flaws
pub mod Keywords
pub mod Commands
pub mod Written
pub mod Answers
