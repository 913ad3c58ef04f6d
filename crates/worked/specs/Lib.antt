pub mod History
pub mod Worked
