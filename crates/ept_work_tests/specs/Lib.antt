pub mod Hands
pub mod Tables
