pub mod Days
pub mod Deeds
pub mod Summary
pub mod Verdicts
pub mod Words
