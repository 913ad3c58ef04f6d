pub mod Faults
pub mod Calls
pub mod Contents
pub mod Laws
