pub mod Told
pub mod Shown
pub mod Filing
pub mod Damage
pub mod Batch
