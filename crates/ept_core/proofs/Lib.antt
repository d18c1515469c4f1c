pub mod NodeMap
pub mod Held
pub mod Leaving
pub mod ArriveLaw
pub mod OtherSteps
mod Sampled
mod Landed
pub mod Resumed
pub mod CoreLaws
mod EffectLaws
pub mod Lookups
pub mod Arriving
mod Runs
pub mod Regrouping
