pub mod Words
pub mod Lines
pub mod Plans
pub mod Laws
pub mod Written
pub mod Flaws
pub mod Held
