pub mod Calls
pub mod Stands
pub mod Exchanges
pub mod Promise
pub mod Histories
pub mod Carried
