pub mod Crash
pub mod Cut
pub mod Disk
pub mod Fuse
pub mod Named
pub mod Objects
pub mod Plans
