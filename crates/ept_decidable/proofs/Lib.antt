pub mod Deciding
mod Headers
mod Records
mod Files
pub mod Rest
pub mod Sampled
