pub mod Causes
pub mod Files
pub mod Links
pub mod Moves
pub mod Devices
