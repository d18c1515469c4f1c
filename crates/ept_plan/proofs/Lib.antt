mod Told
pub mod Fields
mod Currents
mod Scanned
mod Judged
mod Steps
