pub mod Orders
pub mod Insertion
