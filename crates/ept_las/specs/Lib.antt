pub mod Words
pub mod Shifts
pub mod Format
pub mod Pulses
pub mod PointRecord
pub mod Laws
pub mod LasHeader
