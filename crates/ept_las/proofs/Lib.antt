pub mod Formats
mod Stored
pub mod RecordLaws
pub mod SomePoint
mod Faults
pub mod HeaderLaws
