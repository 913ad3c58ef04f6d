pub mod Grouping
pub mod Worked
pub mod Stays
pub mod Permits
pub mod Keeping
pub mod Going
