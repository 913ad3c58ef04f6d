pub mod Courses
pub mod Leasts
pub mod Position
pub mod Readings
pub mod Trials
