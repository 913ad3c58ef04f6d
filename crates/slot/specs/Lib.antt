pub mod Props
pub mod Rank
pub mod Slots
pub mod Laws
pub mod Passes
