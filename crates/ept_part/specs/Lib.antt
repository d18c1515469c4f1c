pub mod Names
pub mod Files
pub mod Scanned
pub mod Errors
pub mod Sampling
pub mod Filling
pub mod Making
pub mod PartLaws
