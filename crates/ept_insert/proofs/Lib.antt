mod Causes
mod Orders
mod Kept
pub mod Choosing
mod Beginning
mod Ending
