pub mod Errors
pub mod Merging
pub mod Steps
pub mod Joining
pub mod Putting
