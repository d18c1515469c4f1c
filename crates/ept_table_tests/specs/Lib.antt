pub mod Rest
pub mod Trade
pub mod Loads
