pub mod Buckets
pub mod Chains
pub mod Cuts
pub mod Hints
pub mod Line
pub mod Changes
pub mod Laws
