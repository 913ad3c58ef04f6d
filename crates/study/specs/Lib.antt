pub mod Branches
pub mod Faults
pub mod Registers
pub mod Loads
pub mod Plain
pub mod Promises
pub mod Turns
