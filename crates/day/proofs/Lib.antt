pub mod Alone
pub mod Events
pub mod Loading
pub mod Numbers
pub mod Places
pub mod Runs
pub mod Tidy
