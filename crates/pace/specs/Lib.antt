pub mod Checksums
pub mod Starts
pub mod Paces
