pub mod Errors
pub mod Loaded
pub mod Lines
pub mod LinesLaws
pub mod Phase
pub mod SavedLaws
pub mod Saving
