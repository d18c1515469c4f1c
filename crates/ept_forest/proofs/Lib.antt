mod Planted
mod Retiring
pub mod Residents
