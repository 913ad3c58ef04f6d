pub mod Unknown
pub mod ReadBack
