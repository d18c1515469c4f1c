pub mod Words
pub mod Errors
pub mod Statuses
pub mod Configurations
