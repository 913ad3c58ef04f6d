pub mod Alone
pub mod Answers
pub mod Blank
pub mod Day
pub mod Faults
pub mod Held
pub mod Runs
pub mod Tidy
