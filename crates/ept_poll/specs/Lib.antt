pub mod Links
pub mod Memory
pub mod Units
pub mod Steps
pub mod Polls
pub mod Runs
