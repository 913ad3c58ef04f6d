pub mod Powers
pub mod Tables
pub mod Quick
