pub mod Ranks
pub mod Picks
pub mod Nths
pub mod Holds
pub mod Puts
pub mod Looks
pub mod Fronts
pub mod Cases
