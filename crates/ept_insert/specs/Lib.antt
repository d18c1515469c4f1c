pub mod Errors
pub mod Between
pub mod Inserting
