pub mod Smallest
pub mod Noting
pub mod Loading
