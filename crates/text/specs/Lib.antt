pub mod Flaws
pub mod Text
pub mod Numbers
pub mod Reading
pub mod Written
