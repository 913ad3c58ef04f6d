pub mod Words
pub mod ReadBack
pub mod Soundness
