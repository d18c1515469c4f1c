pub mod Errors
pub mod Lines
pub mod Publishing
pub mod PublishingLaws
