pub mod Known
mod Whole
pub mod Permitted
pub mod Ascending
pub mod Reading
pub mod Opened
pub mod Meeting
pub mod Begun
pub mod Filing
pub mod Carrying
pub mod Inside
pub mod Landed
pub mod Arrivals
pub mod Forks
pub mod Results
pub mod Settled
pub mod InOne
