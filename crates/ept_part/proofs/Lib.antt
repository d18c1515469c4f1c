mod Digits
pub mod PartNames
pub mod PartFiles
mod Apart
mod Stages
mod Causes
mod Drawn
mod Bodies
mod Planned
mod Once
mod Judging
mod Parting
