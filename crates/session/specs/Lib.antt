pub mod Calendars
pub mod Models
pub mod Asking
pub mod Saying
pub mod Talks
