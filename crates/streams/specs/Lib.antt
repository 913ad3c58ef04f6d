pub mod Draws
pub mod Multipliers
