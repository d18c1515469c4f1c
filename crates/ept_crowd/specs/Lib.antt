pub mod Members
pub mod Shown
pub mod Calls
pub mod Turns
pub mod Laws
