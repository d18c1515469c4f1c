pub mod Alike
pub mod Differing
