pub mod Decimals
pub mod Generator
