pub mod Errors
pub mod Building
pub mod Ends
pub mod Reached
pub mod Phases
pub mod Starting
