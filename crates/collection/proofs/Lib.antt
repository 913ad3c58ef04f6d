pub mod Masks
pub mod Orders
