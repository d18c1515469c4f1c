pub mod Views
pub mod Seats
pub mod Asks
pub mod Locks
pub mod Plays
pub mod Seating
pub mod Laid
