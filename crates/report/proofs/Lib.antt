pub mod Clocks
pub mod Messages
pub mod Unloadings
