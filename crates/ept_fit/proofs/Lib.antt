pub mod Keys
mod Standing
mod Fit
mod Sampled
pub mod Paths
pub mod Walks
mod Ordered
