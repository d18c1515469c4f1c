pub mod AtRoot
pub mod Below
mod Joined
mod Merged
