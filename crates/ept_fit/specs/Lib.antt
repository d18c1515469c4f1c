pub mod Fit
pub mod Walk
pub mod FitLaws
pub mod WalkLaws
