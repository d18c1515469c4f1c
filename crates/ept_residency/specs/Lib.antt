pub mod Places
pub mod PlaceLaws
pub mod Showing
pub mod ShowingLaws
